-- to be believed: what the standards or this project say
pub mod Came
pub mod Terminal
pub mod Card
pub mod Waiting
pub mod Link
pub mod Promises
-- what the code keeps between calls, what calls return, and what is printed
pub mod Views
pub mod CardViews
pub mod Sending
pub mod Steps
pub mod Put
pub mod Awaited
pub mod Shown
pub mod Names
