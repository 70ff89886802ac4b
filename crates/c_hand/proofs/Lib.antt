-- The laws of the rows of states. What others cite: Judged, Round.
pub mod Copies
pub mod Counts
pub mod Judged
pub mod Round
pub mod Tied
