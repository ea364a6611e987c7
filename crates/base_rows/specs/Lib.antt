pub mod Run
pub mod Refuse
pub mod Given
