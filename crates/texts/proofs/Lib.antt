pub mod Reading
pub mod Fields
pub mod Ended
pub mod Pieces
