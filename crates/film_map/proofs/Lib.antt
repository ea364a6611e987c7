pub mod Tables
pub mod Tiles
pub mod Turns
pub mod Spents
pub mod Endings
pub mod Mapped
pub mod Like
