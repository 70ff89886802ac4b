-- The rows of all rules, written for one start.
pub mod Starts
