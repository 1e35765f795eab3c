pub mod Aims
pub mod Answering
pub mod Order
pub mod Outcomes
pub mod Registers
