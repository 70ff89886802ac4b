-- Numbers of one width as numbers of another.
pub mod Numbers
