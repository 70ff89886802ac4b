-- Names as words of 64 bits.
pub mod Word
