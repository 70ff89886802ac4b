-- What the writer of a derivation's text finds at its cursor, and what it writes.
pub mod Cursor
