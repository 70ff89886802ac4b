-- The walk of demand 3: the decided results of first, next and count are those of the machine, over any list of calls.
pub mod Rows
pub mod Listed
pub mod Figures
pub mod Machine
pub mod Decided
pub mod Says
pub mod Walk
pub mod Idle
pub mod Places
pub mod Handed
pub mod Nexts
pub mod Consequences
