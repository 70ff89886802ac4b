-- What a command means: its class, its turn, and the step that it makes.
pub mod Class
pub mod Turn
pub mod Command
