-- Laws of a wider node and of what follows a node.
pub mod WiderNodes
