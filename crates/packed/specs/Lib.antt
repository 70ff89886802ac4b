-- The flat copy of a grammar, and what it means.
pub mod Packed
