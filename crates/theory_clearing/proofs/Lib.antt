-- Theorems about clearing columns: which cells are cleared, and that a filled chart becomes that of fewer bytes.
pub mod Cells
pub mod Filled
