-- The laws of the lines that are written.
pub mod Lines
pub mod Bounds
pub mod Tied
