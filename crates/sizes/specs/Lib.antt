-- The sizes of document 01.
pub mod Sizes
