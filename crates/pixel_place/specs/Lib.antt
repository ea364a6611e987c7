pub mod Blend
