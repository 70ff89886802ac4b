-- The laws of flat rows. What others cite: Judged, Round, Declared.
pub mod Records
pub mod Parts
pub mod Whole
pub mod Round
pub mod Named
pub mod Judged
pub mod Written
pub mod Declared
pub mod Tied
