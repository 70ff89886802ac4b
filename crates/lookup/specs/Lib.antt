-- Where the lookup finds a name.
pub mod Found
