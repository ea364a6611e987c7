pub mod Told
pub mod Samples
pub mod Heads
pub mod Grammar
pub mod Trips
