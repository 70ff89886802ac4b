-- What learning promises: a command that was read, the longer grammar, and the call as a whole.
pub mod Command
pub mod Reading
pub mod Learnt
