-- to be believed: what a text says, and what is recorded from it
pub mod Rising
pub mod Reading
pub mod Seen
pub mod Said
pub mod Following
pub mod Unseen
pub mod Marked
pub mod Unfit
pub mod Recorded
pub mod Arrived
pub mod Followed
pub mod Again
-- how the code finds it, and what is printed
pub mod Decoded
pub mod Matching
pub mod Faults
