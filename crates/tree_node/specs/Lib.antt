-- The numbers of one node.
pub mod Numbers
