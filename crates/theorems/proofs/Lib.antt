-- The final theorems, and the proof of the one that joins them.
pub mod Theorems
pub mod EveryTree
pub mod Words
