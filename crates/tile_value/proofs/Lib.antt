pub mod Values
pub mod Tiles
