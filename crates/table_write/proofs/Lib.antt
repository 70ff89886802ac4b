-- Laws of what is written into the tables.
pub mod Written
