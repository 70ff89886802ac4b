-- The laws of loading.
pub mod Words
pub mod Progress
pub mod Answer
