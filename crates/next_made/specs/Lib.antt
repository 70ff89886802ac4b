-- The derivation after a given one, and what `next` hands out, once the tables are made.
pub mod Advanced
pub mod Made
