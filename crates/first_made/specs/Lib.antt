-- The first derivation, once the tables are made.
pub mod Written
