-- to be believed: what a line of a trace says
pub mod Reading
