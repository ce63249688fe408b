pub mod Rows
pub mod Ladder
pub mod Picture
