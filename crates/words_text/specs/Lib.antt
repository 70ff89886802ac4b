-- The names of the rules in a row of bytes.
pub mod Names
