-- Spans as bits, and how they are written.
pub mod Spans
pub mod Ends
