pub mod Counts
pub mod Mapped
pub mod Turned
