pub mod Counts
pub mod Within
