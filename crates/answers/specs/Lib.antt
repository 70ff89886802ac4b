-- What the declared refusals and answers mean: the numbers and words of document 01.
pub mod Number
pub mod Answers
