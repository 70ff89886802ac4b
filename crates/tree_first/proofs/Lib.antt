-- Laws of what a node and a row write, by the tests that the code makes.
pub mod Codes
pub mod Given
pub mod Opened
pub mod RowSteps
pub mod NodeSteps
