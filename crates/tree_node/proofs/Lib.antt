-- Laws of the numbers of a node.
pub mod Putting
