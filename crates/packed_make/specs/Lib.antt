-- What writing one rule leaves.
pub mod Place
