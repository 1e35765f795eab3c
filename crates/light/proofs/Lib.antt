pub mod Boards
pub mod Groups
pub mod Partners
pub mod Turning
pub mod Walking
