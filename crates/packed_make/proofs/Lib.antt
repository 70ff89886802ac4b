-- Writing rules into a packed grammar: the places of one, and one after the other.
pub mod Row
pub mod Force
pub mod Rows
