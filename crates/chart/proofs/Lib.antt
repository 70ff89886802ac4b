-- Theorems about the chart. What others cite: Derived (Bounded), Written, Least, Filled, Truth.
pub mod Cut
pub mod Derived
pub mod Rounds
pub mod Cells
pub mod Inside
pub mod Least
pub mod Written
pub mod Slices
pub mod Trees
pub mod Filled
pub mod Exact
pub mod Truth
pub mod SameRules
