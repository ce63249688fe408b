pub mod Readings
pub mod Takings
pub mod Chains
