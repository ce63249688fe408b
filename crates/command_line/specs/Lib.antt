pub mod Form
pub mod Building
pub mod Version
pub mod Asked
