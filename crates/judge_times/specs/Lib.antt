-- to be believed: when a block comes too late or too early
pub mod Waiting
pub mod Clocked
