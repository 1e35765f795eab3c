pub mod Captures
pub mod Replays
pub mod Inside
pub mod Startable
