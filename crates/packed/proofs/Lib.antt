-- The laws of packed grammars.
pub mod Laws
pub mod Fitting
pub mod Used
pub mod Tied
