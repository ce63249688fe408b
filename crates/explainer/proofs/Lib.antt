pub mod Pairing
pub mod Placing
pub mod Wording
pub mod Twice
