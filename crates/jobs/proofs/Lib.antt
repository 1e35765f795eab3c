pub mod Shown
pub mod Ranks
pub mod Filling
pub mod Solved
pub mod Settled
pub mod Ended
pub mod Answered
