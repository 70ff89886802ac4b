-- Laws of sets of rules.
pub mod Laws
pub mod Counting
