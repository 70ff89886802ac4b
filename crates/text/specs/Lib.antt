-- What the listing program prints: numbers, lines, and the whole text.
pub mod Number
pub mod Line
pub mod Text
pub mod Sample
pub mod Front
