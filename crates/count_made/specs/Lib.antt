-- What `count` answers, and what its parts do once the tables are made.
pub mod Answer
pub mod Made
