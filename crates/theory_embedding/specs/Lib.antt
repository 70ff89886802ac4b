-- What it means that a grammar's rules are rules of another one.
pub mod Embedding
