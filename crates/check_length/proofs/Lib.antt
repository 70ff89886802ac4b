-- The laws of the sum of the lengths and of its rounding.
pub mod Signed
pub mod Lengths
