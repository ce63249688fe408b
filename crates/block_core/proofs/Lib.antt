pub mod Computed
pub mod Blocks
pub mod Goes
pub mod Rows
pub mod Places
pub mod Puts
pub mod Stages
pub mod Readings
