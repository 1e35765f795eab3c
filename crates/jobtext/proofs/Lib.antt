pub mod Entries
pub mod Cells
pub mod Whole
pub mod Accepted
pub mod Boards
pub mod Examples
