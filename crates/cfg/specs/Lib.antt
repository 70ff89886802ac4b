-- The meaning of a grammar, in the order of document 01.
pub mod Grammar
pub mod Tree
pub mod Derivation
pub mod Decode
pub mod Listing
pub mod Nullable
