pub mod Counting
pub mod Entering
pub mod Judging
pub mod Lowest
pub mod Named
pub mod Outcomes
pub mod Verdicts
