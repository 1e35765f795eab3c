pub mod Answers
pub mod Entry
pub mod Judged
