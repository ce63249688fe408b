-- to be believed: what the standards, or this project, say
pub mod Atr
pub mod Rates
pub mod T1
pub mod Waiting
-- what the code keeps between calls, what calls return, and what is printed
pub mod Partial
pub mod Taking
pub mod Stage
pub mod Whole
pub mod Same
pub mod Names
