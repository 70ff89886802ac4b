-- Laws of the choices and of what comes next, by the tests that the code makes.
pub mod Chosen
pub mod Looking
