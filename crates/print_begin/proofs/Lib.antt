-- Laws of the listing program's first step.
pub mod Opening
pub mod Judged
pub mod Years
pub mod Books
