pub mod Adding
pub mod Counts
pub mod Order
pub mod Placed
pub mod Rows
pub mod Shifting
