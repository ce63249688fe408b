pub mod Listing
pub mod Items
