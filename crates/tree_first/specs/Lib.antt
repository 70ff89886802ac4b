-- The first derivation below a node, by the tables.
pub mod Descend
