-- Laws of the rows of a rule, by the tests that the code makes.
pub mod Starts
pub mod AllStarts
