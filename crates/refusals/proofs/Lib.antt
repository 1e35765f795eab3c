pub mod Accepting
pub mod Aims
pub mod FirstMoves
pub mod Joined
pub mod Judged
pub mod Order
pub mod Verdicting
