-- The forests that the enumerator looks for, and what is first, next and last among the codes of a set of forests.
pub mod Rows
pub mod Order
