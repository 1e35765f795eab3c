pub mod Counts
pub mod Entering
pub mod Order
pub mod Outcomes
