-- to be believed: what the standards or this project say
pub mod Exchange
pub mod Text
pub mod Reading
pub mod Words
-- what calls return, and what is printed
pub mod Faults
pub mod Names
