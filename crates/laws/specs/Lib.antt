pub mod Lent
pub mod Searching
pub mod Sums
pub mod Tables
