pub mod Halving
pub mod Laws
pub mod Card
pub mod Pairs
pub mod Machine
