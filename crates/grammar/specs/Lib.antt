-- The declared types of a grammar, and what they mean.
pub mod Zero
pub mod Setters
pub mod Valid
pub mod View
pub mod Years
pub mod Tagged
