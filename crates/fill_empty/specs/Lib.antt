-- The empty span at the end of a column, and the kinds of the rules.
pub mod Empty
