-- Laws of how the tables are made.
pub mod Ending
