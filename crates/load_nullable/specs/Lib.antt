-- What the search for nullable nonterminals computes, and books for it.
pub mod Nullable
pub mod Table
