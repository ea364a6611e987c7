pub mod Sample
pub mod Scan
pub mod Told
pub mod Plain
pub mod Grammar
