-- Laws that the proofs of the functions cite.
pub mod Turns
pub mod NameWords
pub mod Joined
pub mod Progress
pub mod Calls
