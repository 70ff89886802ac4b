-- The laws of valid names and of their words.
pub mod Valid
pub mod Compared
pub mod Tied
