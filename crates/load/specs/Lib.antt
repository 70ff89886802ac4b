-- What loading promises.
pub mod Answer
