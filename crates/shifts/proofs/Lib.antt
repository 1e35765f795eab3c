pub mod ByNothing
pub mod Composing
pub mod Registers
pub mod Shifting
pub mod Spotted
