-- What writing bytes into a buffer means, and the sizes of lengths.
pub mod Put
