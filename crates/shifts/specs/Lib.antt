pub mod Inside
pub mod Programs
pub mod Results
