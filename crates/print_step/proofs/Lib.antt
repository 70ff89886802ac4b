-- Laws of the listing program after its first step.
pub mod Lines
pub mod Stepping
pub mod Measured
