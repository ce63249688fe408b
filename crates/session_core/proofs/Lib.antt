pub mod Parts
pub mod Left
pub mod Ends
pub mod Times
pub mod Known
