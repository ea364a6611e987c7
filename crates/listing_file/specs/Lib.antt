pub mod Listing
pub mod Asks
