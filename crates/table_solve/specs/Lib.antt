-- The least numbers of nodes over one whole span, as passes over the rules find them.
pub mod Solve
