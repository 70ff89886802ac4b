-- Laws that the proofs of the functions cite.
pub mod Declared
pub mod Copied
pub mod Checked
pub mod Calls
pub mod Tied
