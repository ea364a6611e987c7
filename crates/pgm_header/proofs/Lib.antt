pub mod Told
pub mod Reading
pub mod Writing
pub mod Grammar
pub mod Laws
pub mod Refusals
