pub mod Composing
pub mod Registers
pub mod Spreading
