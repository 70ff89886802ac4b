-- The laws of the length of a text. What others cite: Exact.
pub mod Sums
pub mod Exact
