-- Points to come back to (document 02, U6) and rules learnt (U8): the plain machine of a list of operations, and the operations by the
-- decided results.
pub mod Machine
pub mod Operations
