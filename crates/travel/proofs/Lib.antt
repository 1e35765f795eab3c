pub mod Line
pub mod Walk
pub mod Listed
pub mod Shape
pub mod Collide
pub mod Range
pub mod Turning
pub mod Edges
