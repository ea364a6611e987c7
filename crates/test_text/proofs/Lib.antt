-- Laws that the proofs of lines cite. Assumes nothing.
pub mod Digits
pub mod Lines
pub mod Nans
pub mod Runs
