-- Laws that the proofs of the functions cite.
pub mod Cell
pub mod Writing
pub mod Telling
pub mod Filling
