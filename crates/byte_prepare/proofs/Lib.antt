pub mod Tables
pub mod Works
pub mod Endings
pub mod Parts
