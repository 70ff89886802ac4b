-- What the exported functions return and leave, by their answer.
pub mod Code
