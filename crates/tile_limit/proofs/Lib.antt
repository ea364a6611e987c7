pub mod Factor
pub mod Pattern
pub mod Laws
