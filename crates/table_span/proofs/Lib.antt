-- Laws of one span: what stays right, what is opened, what is done.
pub mod Kept
pub mod Opening
pub mod Closing
