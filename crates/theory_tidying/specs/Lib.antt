-- Clearing what is unused in a grammar (document 02, U8).
pub mod Tidying
