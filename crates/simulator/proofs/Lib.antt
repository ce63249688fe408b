pub mod Long
pub mod Running
pub mod Working
pub mod Roomy
pub mod Ending
