-- How long the text of a derivation is, as a sum over its nodes.
pub mod Length
