pub mod Counts
pub mod Cuts
pub mod Rows
pub mod Fours
pub mod Ways
pub mod Greys
pub mod Turns
