pub mod Faults
pub mod Simulation
