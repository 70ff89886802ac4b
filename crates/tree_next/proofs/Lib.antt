-- Laws of the advance, by the tests that the code makes.
pub mod Ending
pub mod RowSteps
pub mod LastSteps
pub mod ChildSteps
pub mod NodeSteps
