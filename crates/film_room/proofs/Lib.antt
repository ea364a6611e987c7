pub mod Instead
pub mod Drops
pub mod Stores
pub mod Fifteen
pub mod Shows
