-- What the theorem from a book to its parse trees says.
pub mod EveryTree
