pub mod Wire
pub mod Lines
pub mod Setup
pub mod Actions
pub mod Terminals
pub mod Cards
