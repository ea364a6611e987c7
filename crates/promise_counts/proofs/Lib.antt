-- The promises: theorems over the calls' contracts, by demand and by order. docs/PROMISES.md lists each of them.
pub mod Demand3
pub mod Order3
pub mod Order5
pub mod Order7
pub mod Order8
-- The calls by the names of their arguments, and what the promises speak of beside one call.
pub mod Runs
pub mod Ways
-- What they are proved with.
pub mod Tables
pub mod Ended
mod Looks
