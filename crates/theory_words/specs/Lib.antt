-- The text of a derivation (document 02, U4: a reading in words): names of rules, texts of rules and forests, and when texts tell rules
-- apart.
pub mod Name
pub mod Words
pub mod Telling
