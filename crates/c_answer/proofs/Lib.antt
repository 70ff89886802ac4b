-- Laws that the proofs share.
pub mod Apart
pub mod Learnt
