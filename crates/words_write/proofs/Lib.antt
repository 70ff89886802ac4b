-- The laws of the writer. What others cite: Forests, Pieces.
pub mod Forests
pub mod Pieces
pub mod Places
pub mod Rooms
