-- The laws of the pieces of a text.
pub mod Digits
pub mod Names
pub mod Tied
