-- The promises: theorems over the calls' contracts. docs/PROMISES.md lists each of them.
pub mod Order13
-- The calls by the names of their arguments, and what the promises speak of beside one call.
pub mod Runs
pub mod Slides
pub mod Ways
-- What they are proved with.
mod Outcomes
mod Regions
mod Local
