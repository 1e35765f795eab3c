pub mod Both
pub mod Ends
pub mod Engines
pub mod Outcomes
pub mod Records
pub mod Unlogged
pub mod Words
