-- Laws of the derivation after a given one, and of what `next` hands out, once the tables are made.
pub mod Root
pub mod Handing
