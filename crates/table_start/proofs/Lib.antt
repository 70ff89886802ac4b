-- Laws of the rows of all rules.
pub mod Columns
pub mod Again
