pub mod Reading
pub mod Values
pub mod Each
pub mod Groups
pub mod Numbers
pub mod Requests
pub mod Givens
