-- Laws that the proofs of the functions cite.
pub mod Making
pub mod Words
pub mod Listing
pub mod Tied
