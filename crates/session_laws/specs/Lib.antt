pub mod Ending
pub mod Hosts
pub mod Running
pub mod Talking
pub mod Serving
pub mod Together
