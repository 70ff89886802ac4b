-- Laws that the proofs of the functions cite.
pub mod Depend
pub mod Looking
pub mod States
