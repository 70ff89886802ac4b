-- The laws of `words`.
pub mod NameRow
pub mod Offered
pub mod Calls
