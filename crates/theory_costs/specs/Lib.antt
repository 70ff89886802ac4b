-- The least number of nodes over a span: lowest numbers, costs of cuts, trees over a span, the cost of a rule.
pub mod Lowest
pub mod Cut
pub mod Span
pub mod Rule
pub mod Solve
