-- Laws of the costs of rules, by the tests that the code makes.
pub mod Sums
pub mod Through
