pub mod Pixels
pub mod Tiles
