-- Laws that the proofs of the film set cite. Assumes nothing.
pub mod Answers
pub mod Digests
pub mod Nans
