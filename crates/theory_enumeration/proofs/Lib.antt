-- The first, the next and the last code of rows and nodes, from those of their parts; at the root they are the list L.
pub mod Listed
pub mod Root
pub mod Compare
pub mod Prefixed
pub mod Layered
pub mod Joined
pub mod Free
pub mod Rows
pub mod Cuts
pub mod Nodes
pub mod Budgets
pub mod First
pub mod Next
