pub mod Adding
pub mod Composing
pub mod Registers
