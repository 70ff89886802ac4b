-- How checks 8 to 11 are judged, and what a call without an output gives.
pub mod Judging
pub mod Given
