-- The laws of a step of loading.
pub mod Parts
pub mod Steps
