-- The cost of a rule over a span.
pub mod Rule
