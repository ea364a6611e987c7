pub mod Rule
pub mod Local
pub mod Stays
