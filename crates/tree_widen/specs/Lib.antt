-- A wider node, and what follows a node that has moved.
pub mod Wider
