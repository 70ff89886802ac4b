-- Theorems about the machine of points and learnt rules: when it refuses, what always holds of it, that only learning changes the grammar,
-- and that a return undoes what came after the point.
pub mod Computed
pub mod Learnt
pub mod Points
pub mod Moves
pub mod Kept
pub mod Sound
pub mod Undone
