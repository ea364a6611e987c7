pub mod Clip
pub mod Looks
pub mod Asks
pub mod Spans
