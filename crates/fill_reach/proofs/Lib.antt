-- The laws of these sets.
pub mod Reaching
pub mod Passing
