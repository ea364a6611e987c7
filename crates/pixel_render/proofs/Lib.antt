pub mod Pixels
pub mod Sections
pub mod Rows
pub mod Counts
pub mod Strips
pub mod Laws
pub mod Summing
