-- Trees in a buffer of numbers.
pub mod Standing
