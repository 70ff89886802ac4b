-- Laws of the text that the listing program prints.
pub mod Sample
pub mod Depth
pub mod Short
pub mod Near
pub mod Front
