pub mod Table
pub mod Endings
pub mod Renders
pub mod Like
pub mod Alike
