-- For each tree there is one without superfluous recursion, over the same bytes and with no more nodes.
pub mod Decide
pub mod Extract
pub mod Shrink
pub mod Nullable
pub mod Levels
pub mod Depth
