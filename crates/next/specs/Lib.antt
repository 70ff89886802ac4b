-- What `next` answers.
pub mod Answer
