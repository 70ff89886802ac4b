-- Sets of small numbers as words of bits.
pub mod Set
pub mod Pairs
