-- The laws of signed numbers. What others cite: Signs, Complement.
pub mod Signs
pub mod Complement
