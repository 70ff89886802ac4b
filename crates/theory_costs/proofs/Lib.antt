-- Least numbers of nodes. Loops cite Lowest and Cut (steps of running minima), Within, Rule (the cost of a rule) and Solve (sound and
-- stable numbers are exact). The choices of the enumerator cite Span, Rows, Plain and Nodes.
pub mod Lowest
pub mod Cut
pub mod Span
pub mod Within
pub mod Rows
pub mod Whole
pub mod Rule
pub mod Solve
pub mod Plain
pub mod Nodes
