-- to be believed: what the standards, or this project, say
pub mod Bursts
pub mod Line
pub mod Exchange
pub mod Service
pub mod Commanding
pub mod Resynch
pub mod Streams
pub mod Timed
pub mod Joined
-- what the code keeps between calls, what calls return, and what is printed
pub mod Names
