pub mod Items
pub mod Members
pub mod Version
