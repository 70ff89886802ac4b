-- The fit table: which places fit which positions of an input.
pub mod Fit
