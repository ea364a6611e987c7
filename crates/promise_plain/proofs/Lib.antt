-- The promises: theorems over the calls' contracts. docs/PROMISES.md lists each of them.
pub mod Order9
-- The calls by the names of their arguments, and what the promises speak of beside one call.
pub mod Runs
pub mod Ways
-- What they are proved with.
pub mod Outcomes
mod Moves
