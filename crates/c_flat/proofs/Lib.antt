pub mod Handed
pub mod Kept
