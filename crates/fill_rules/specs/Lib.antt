-- Sets of rules, what functions over them promise, and lists of their members.
pub mod Rules
pub mod Listing
