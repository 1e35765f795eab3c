pub mod Verdicts
pub mod Lanes
