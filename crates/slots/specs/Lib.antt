pub mod Cells
pub mod Lanes
