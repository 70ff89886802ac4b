-- The derivation after the one in a buffer.
pub mod Advance
