-- What each step of the listing program after the first one does.
pub mod Stepped
