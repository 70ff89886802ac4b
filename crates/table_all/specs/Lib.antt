-- How the tables are made: what is right when the spans up to an end are done.
pub mod Spans
