pub mod Flat
pub mod Films
pub mod Files
