pub mod Travel
pub mod Turns
