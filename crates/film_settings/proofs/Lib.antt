pub mod Clips
pub mod Editions
pub mod Like
pub mod Ready
pub mod Reach
pub mod Parts
pub mod Records
