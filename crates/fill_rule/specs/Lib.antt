-- The flags of a column, and what passes over one cell give.
pub mod Flags
pub mod Passes
