pub mod Inside
pub mod Lines
pub mod Mesh
