-- The laws of fit tables.
pub mod Entries
pub mod Tables
pub mod Reading
pub mod Tied
