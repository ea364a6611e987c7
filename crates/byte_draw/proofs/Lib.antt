pub mod Tables
pub mod Works
pub mod Parts
