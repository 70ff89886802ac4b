-- Which rules a nonterminal concerns, and which can end with a terminal.
pub mod Holders
