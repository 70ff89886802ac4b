-- The sizes of lines.
pub mod Sizes
