-- What is due in the listing program, and what its first step does.
pub mod Due
pub mod Begun
