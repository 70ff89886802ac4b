-- The rule lengths of which the sum is made.
pub mod Measure
