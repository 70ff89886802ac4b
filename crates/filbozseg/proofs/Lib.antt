-- Laws that the proofs share.
pub mod Fits
pub mod Longer
pub mod Given
