pub mod Lines
pub mod Widened
