pub mod Entries
pub mod Inside
pub mod Programs
pub mod Ranks
