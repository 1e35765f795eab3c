pub mod Cases
pub mod Shifts
