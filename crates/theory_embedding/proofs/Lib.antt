-- What holds of a grammar inside another one: its trees and derivations are the other's, renumbered; its list L is the other's, filtered.
pub mod Renumber
pub mod Trees
pub mod Same
pub mod Derivations
pub mod Uses
pub mod Listed
