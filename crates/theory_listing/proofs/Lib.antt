-- The list of derivations is exact, in order, and determined by the grammar, the input and the budget.
pub mod Order
pub mod Members
pub mod Rising
pub mod Rules
pub mod Unique
pub mod Fit
pub mod Steps
pub mod Rows
pub mod Sorted
pub mod Filter
pub mod Exact
