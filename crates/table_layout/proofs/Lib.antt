-- Laws of where the tables' numbers are stored.
pub mod Entries
pub mod Bares
pub mod Tied
