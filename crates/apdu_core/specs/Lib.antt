-- to be believed: what the standards, or this project, say
pub mod Command
pub mod Response
pub mod Status
pub mod Arrival
-- what the code keeps between calls, what calls return, and what is printed
pub mod Borrowed
pub mod Sending
pub mod Receiving
pub mod Put
pub mod Names
