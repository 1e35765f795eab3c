pub mod Entries
pub mod Inside
pub mod Names
