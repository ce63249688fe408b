-- to be believed: what the standards, or this project, say
pub mod Octets
pub mod Grammar
pub mod Hexadecimal
pub mod Decimal
pub mod Words
pub mod Sizes
-- what the code keeps between calls, what calls return, and what is printed
pub mod Failures
pub mod Counted
pub mod Reader
pub mod Stops
