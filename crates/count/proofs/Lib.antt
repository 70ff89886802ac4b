-- Laws of `count`.
pub mod Made
pub mod Calls
