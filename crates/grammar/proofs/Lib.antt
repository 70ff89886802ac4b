-- The laws of the declared grammars.
pub mod All
pub mod Laws
pub mod Apart
pub mod Bounds
pub mod Names
pub mod RuleAt
pub mod Years
pub mod Setters
pub mod Declared
pub mod Tied
