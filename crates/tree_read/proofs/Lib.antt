-- Laws of what a buffer holds, by the tests that the code makes.
pub mod Leaves
pub mod Reading
pub mod Places
pub mod Reaching
