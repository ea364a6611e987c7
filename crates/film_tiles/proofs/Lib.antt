pub mod Tiles
pub mod Footers
pub mod Films
pub mod Turns
pub mod Like
pub mod Spents
pub mod Bounds
