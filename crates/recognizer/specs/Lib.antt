-- What the exported calls give.
pub mod Recognizer
