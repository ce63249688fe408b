-- to be believed: what the standard permits
pub mod Ends
pub mod Sends
pub mod Courses
pub mod Followed
pub mod Watched
pub mod Doubts
pub mod Connections
pub mod Monitored
pub mod Missed
pub mod Tapped
pub mod Rules
pub mod States
pub mod Stakes
-- how code classes octets and tries blocks
pub mod Classes
pub mod Rulings
-- what is printed
pub mod Shown
