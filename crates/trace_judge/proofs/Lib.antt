pub mod Steps
pub mod Lines
pub mod SeenOnce
pub mod Once
