-- Rows that the definitions must give; equal texts are equal derivations; how long a text is.
pub mod Computed
pub mod Rules
pub mod Same
pub mod Filled
pub mod SameName
pub mod Names
pub mod Derived
pub mod Size
