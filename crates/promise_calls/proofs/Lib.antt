-- The promises: theorems over the calls' contracts, by demand and by order. docs/PROMISES.md lists each of them.
pub mod Demand3
pub mod Order3
pub mod Order5
-- What they are proved with, and the runs that are alike but for the factor.
mod Factors
mod Reached
mod Used
mod Whites
