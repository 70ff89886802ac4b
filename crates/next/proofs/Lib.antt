-- Laws of `next`.
pub mod Handing
pub mod Calls
