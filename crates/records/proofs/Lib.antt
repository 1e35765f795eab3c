pub mod Backwards
pub mod Demand3
pub mod Marked
pub mod Outcomes
pub mod Performing
pub mod Source
