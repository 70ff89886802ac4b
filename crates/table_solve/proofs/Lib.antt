-- Laws of the passes over the rules, by the tests that the code makes.
pub mod Over
pub mod Total
pub mod Lowering
pub mod Passing
pub mod Trees
