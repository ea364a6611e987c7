pub mod Steps
pub mod Choice
