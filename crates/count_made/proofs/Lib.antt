-- Laws of counting.
pub mod Handed
pub mod Loop
