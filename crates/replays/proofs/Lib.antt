pub mod Lines
pub mod Replaying
pub mod Shown
