-- to be believed: what the standards, or this project, say
pub mod Least
pub mod Block
pub mod Chain
pub mod Apdu
pub mod List
pub mod Atr
pub mod Forest
