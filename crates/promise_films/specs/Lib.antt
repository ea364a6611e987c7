pub mod Worked
pub mod Films
pub mod Older
pub mod Fitted
pub mod Looks
