pub mod Handed
pub mod Runs
pub mod Outcomes
pub mod Ways
pub mod Moves
