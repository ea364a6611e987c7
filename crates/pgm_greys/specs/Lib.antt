pub mod Greys
