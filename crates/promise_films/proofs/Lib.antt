-- The promises: theorems over the calls' contracts, by demand and by order. docs/PROMISES.md lists each of them.
pub mod Demand1
pub mod Demand2
pub mod Demand3
pub mod Order3
pub mod Order6
pub mod Order7
pub mod Order8
-- The calls by the names of their arguments, and what the promises speak of beside one call.
pub mod Runs
pub mod Ways
-- What they are proved with.
pub mod Accepted
pub mod Ended
pub mod Alike
mod Rendering
pub mod Reuse
mod Windows
pub mod Made
pub mod Whole
pub mod Sound
pub mod Bins
mod Covers
pub mod Fitted
pub mod Looks
pub mod Files
mod Back
pub mod Told
-- The worked numbers.
pub mod Numbers
