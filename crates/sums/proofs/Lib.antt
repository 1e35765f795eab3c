pub mod Balancing
pub mod Stepping
pub mod Taking
