pub mod Mapped
pub mod Tiles
pub mod Bounds
