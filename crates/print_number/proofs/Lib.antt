-- The laws of what is written into a buffer. What others cite: Writing, Decimal.
pub mod Writing
pub mod Decimal
pub mod Signed
