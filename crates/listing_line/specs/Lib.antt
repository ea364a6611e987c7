pub mod Lines
pub mod Asks
