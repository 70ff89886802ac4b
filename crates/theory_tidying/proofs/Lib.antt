-- Theorems about clearing what is unused: what remains in a record and in a grammar, that check 8 still passes, and that it means the same.
pub mod Padded
pub mod Tidied
pub mod Named
