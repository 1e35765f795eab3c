pub mod Running
pub mod Swapping
