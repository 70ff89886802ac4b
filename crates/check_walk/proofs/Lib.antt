-- The laws of the walk over an offered derivation. Other crates cite Nodes and Whole.
pub mod Spans
pub mod Walks
pub mod Nodes
pub mod Tests
pub mod Steps
pub mod Whole
