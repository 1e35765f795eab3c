pub mod Cases
pub mod Cuts
pub mod Inside
