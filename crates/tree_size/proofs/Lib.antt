-- Laws of codes in a buffer, of forests one after the other, and of the walk over the nodes.
pub mod Stands
pub mod Forests
pub mod Counts
pub mod Walk
