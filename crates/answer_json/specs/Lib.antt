pub mod Strings
pub mod Notes
pub mod Refusals
