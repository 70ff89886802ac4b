-- Laws that the proofs of the functions cite.
pub mod Rows
pub mod Putting
pub mod Telling
pub mod Adding
pub mod Starting
pub mod Tied
