-- Looking at the rules at one cell.
pub mod Looks
