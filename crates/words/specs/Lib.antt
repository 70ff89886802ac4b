-- What `words` answers and leaves once the chart is filled.
pub mod Answer
