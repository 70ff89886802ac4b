-- The least costs of the places of a rule, from each place on and from each start.
pub mod Within
pub mod Rows
