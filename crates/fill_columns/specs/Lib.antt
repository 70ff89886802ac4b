-- A column of the chart, written cell by cell.
pub mod Columns
