pub mod Films
pub mod Tiles
pub mod Refusals
pub mod Calls
