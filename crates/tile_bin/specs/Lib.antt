pub mod Binning
