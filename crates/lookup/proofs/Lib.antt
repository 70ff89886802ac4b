-- The laws of the lookup.
pub mod Walk
pub mod Parts
