pub mod Boards
pub mod Stored
