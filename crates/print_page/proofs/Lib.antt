-- Laws of one page, and of all pages.
pub mod Paging
pub mod Printed
