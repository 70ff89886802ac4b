-- What a buffer holds at a place of a rule, and the last node of a row.
pub mod Looked
pub mod Reached
