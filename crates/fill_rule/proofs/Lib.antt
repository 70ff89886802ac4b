-- Laws that the proofs of the functions cite.
pub mod Bits
pub mod Owned
pub mod First
pub mod Mask
pub mod Passing
pub mod Rule
