-- The walk over an offered derivation.
pub mod Walk
