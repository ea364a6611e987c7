-- The promises: theorems over the calls' contracts. docs/PROMISES.md lists each of them.
pub mod Order12
-- The calls by the names of their arguments, and what the promises speak of beside one call.
pub mod Runs
pub mod Ways
-- What they are proved with.
mod Rows
mod Plain
