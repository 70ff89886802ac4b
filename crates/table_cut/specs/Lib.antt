-- The least cost of the places of a rule from one place on: over a span, and inside one.
pub mod Suffix
pub mod Within
