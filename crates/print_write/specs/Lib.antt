-- What the program promises of the bytes that it hands to the write.
pub mod Listed
