pub mod Tables
pub mod Parts
pub mod Laws
