-- What a page of the listing is, and all pages one after the other.
pub mod Page
pub mod Pages
