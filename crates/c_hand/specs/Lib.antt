-- A state of the recognizer as a row of 16-bit numbers.
pub mod Hand
pub mod Ranges
