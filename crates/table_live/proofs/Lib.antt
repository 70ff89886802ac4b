-- Laws of the live starts and of the rules that are passed over.
pub mod Marking
pub mod Passed
pub mod Opening
