pub mod Cutting
pub mod Lossless
