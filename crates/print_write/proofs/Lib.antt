-- Laws of the loop over the pages.
pub mod Going
