pub mod Loosed
pub mod Values
