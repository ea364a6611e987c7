pub mod Around
pub mod Worked
