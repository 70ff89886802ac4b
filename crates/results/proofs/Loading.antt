-- Loading: the number of commands allowed does not matter, and what each command keeps of the grammar read so far.
pub mod Lists
pub mod Run
pub mod Changes
pub mod Commands
pub mod Valid
pub mod Undated
pub mod Renamed
pub mod Named
