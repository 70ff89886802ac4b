-- Rows that the definitions must give, each proved by computing it or by its constructors; that a number has one rule, that a node covers
-- no more than its forest, what fits a terminal, and that a code gives its forest back.
pub mod Table
pub mod Of
pub mod Has
pub mod Fits
pub mod Decode
