pub mod Parts
pub mod Trips
pub mod Moves
