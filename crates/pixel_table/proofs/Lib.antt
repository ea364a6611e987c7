pub mod Patches
pub mod Tables
pub mod Turns
pub mod Runs
