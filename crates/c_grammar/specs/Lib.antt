-- A declared grammar as a flat row of 16-bit numbers.
pub mod Flat
pub mod Valid
pub mod Fits
