pub mod Header
pub mod Told
pub mod Grammar
