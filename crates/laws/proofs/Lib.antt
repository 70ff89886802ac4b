-- Laws that are not about grammars and that the kit's libraries lack.
pub mod Bools
pub mod Lists
pub mod Signed
