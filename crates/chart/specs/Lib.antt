-- The chart, in the order in which document 01 defines the sheet.
pub mod Cell
pub mod Column
pub mod Closed
