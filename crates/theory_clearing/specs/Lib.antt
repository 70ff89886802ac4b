-- Clearing the columns of the chart (document 02, U6: a return to a point).
pub mod Clearing
