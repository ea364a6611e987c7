pub mod Edges
pub mod Axes
pub mod Made
