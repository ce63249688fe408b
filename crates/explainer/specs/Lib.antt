pub mod Sentences
pub mod Notes
pub mod Texts
pub mod Pairs
pub mod Places
pub mod Words
pub mod Known
