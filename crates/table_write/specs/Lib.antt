-- What is written into the tables.
pub mod Writes
