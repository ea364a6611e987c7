pub mod Widths
pub mod Bounds
pub mod Packing
pub mod Trips
