-- The laws of the search, and its table.
pub mod Pass
pub mod Empty
pub mod Exact
pub mod Depth
pub mod Table
