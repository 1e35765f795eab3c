pub mod Programs
pub mod Results
