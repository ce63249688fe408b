-- to be believed: what a text says, and what is reported about it
pub mod Saying
pub mod Objects
pub mod Telling
pub mod Coverage
pub mod Judging
pub mod Places
