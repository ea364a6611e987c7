pub mod Tables
pub mod Tiles
pub mod Turns
pub mod Endings
pub mod Like
