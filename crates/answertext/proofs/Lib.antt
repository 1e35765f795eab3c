pub mod SideBySide
pub mod Lines
pub mod Adding
pub mod Room
