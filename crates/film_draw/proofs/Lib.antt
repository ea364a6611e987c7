pub mod Tables
pub mod Works
pub mod Laws
pub mod Like
