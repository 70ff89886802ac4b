-- The ends of nonterminals from each start.
pub mod Reach
