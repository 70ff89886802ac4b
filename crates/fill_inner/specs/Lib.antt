-- Where inner cuts of a span begin.
pub mod Begins
