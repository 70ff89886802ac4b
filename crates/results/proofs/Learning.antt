-- Learning a rule: the number of commands allowed does not matter, what each command keeps of the grammar read so far, and what is known of
-- the longer grammar.
pub mod Run
pub mod Commands
pub mod Enlarged
pub mod Valid
pub mod Old
