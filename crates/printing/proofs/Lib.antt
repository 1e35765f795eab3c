pub mod Putting
pub mod Digits
pub mod Filling
pub mod Meaning
