-- Laws of `first`.
pub mod Chart
pub mod Root
pub mod Handing
pub mod Calls
