-- to be believed: what the standards or this project say
pub mod Replay
pub mod Waiting
pub mod Run
pub mod Told
pub mod Recording
pub mod Records
-- what the code keeps between calls, what calls return, and what is printed
pub mod Output
pub mod Faults
