-- What is promised of the members of a word that are listed.
pub mod Words
