-- One span: what is right when the spans before it are done, and what the functions do for it.
pub mod Sofar
pub mod Spans
