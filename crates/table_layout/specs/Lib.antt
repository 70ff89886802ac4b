-- The enumerator's tables: where their numbers are stored, and when they are right.
pub mod Layout
pub mod Exact
