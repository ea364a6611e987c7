pub mod Pgm
