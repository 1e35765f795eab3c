pub mod Board
pub mod Codes
pub mod Fourth
