-- Laws of the costs of a rule's places, by the tests that the code makes.
pub mod Ends
pub mod Places
pub mod Inner
