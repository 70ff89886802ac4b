-- The answers of the checker's calls, and the rules that a derivation uses from a node on.
pub mod Build
pub mod Calls
