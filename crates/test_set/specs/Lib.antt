pub mod Filmset
