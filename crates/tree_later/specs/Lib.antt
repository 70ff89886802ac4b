-- What comes after the derivation in a buffer: a later rule.
pub mod Beyond
