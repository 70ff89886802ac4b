-- Laws of the first derivation, once the tables are made.
pub mod Input
pub mod Front
pub mod Root
pub mod Writing
