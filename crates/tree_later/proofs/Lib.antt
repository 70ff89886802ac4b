-- Laws of the frame and of a later rule, by the tests that the code makes.
pub mod Codes
pub mod Frames
pub mod LaterRules
