pub mod Outputs
pub mod Filled
pub mod Inside
