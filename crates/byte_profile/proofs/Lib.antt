pub mod Profile
pub mod Outside
pub mod Greys
