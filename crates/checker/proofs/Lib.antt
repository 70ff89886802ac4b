-- The laws of the checker's calls.
pub mod Used
pub mod Answers
