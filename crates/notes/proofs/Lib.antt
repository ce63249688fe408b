pub mod Adding
pub mod Cutting
pub mod Ends
pub mod Lacking
pub mod Tabled
