-- The constants are the sizes.
pub mod Tied
