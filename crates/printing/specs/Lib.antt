pub mod Printed
pub mod Buffers
pub mod Printers
