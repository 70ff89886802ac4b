-- Live starts, and the rows of one rule from one start.
pub mod Live
