pub mod Counts
pub mod Inside
pub mod Lane
pub mod Lanes
