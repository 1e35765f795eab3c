pub mod Bridge
pub mod Content
pub mod Counting
pub mod Course
pub mod Holds
pub mod Lines
pub mod Standing
