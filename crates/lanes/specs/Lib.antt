pub mod Inside
pub mod Machine
pub mod Registers
pub mod Runs
pub mod Stages
