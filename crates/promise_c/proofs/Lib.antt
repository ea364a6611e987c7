-- The promises: theorems over the calls' contracts, by demand and by order. docs/PROMISES.md lists each of them.
pub mod Demand1
pub mod Order1
pub mod Order5
pub mod Order11
-- The calls by the names of their arguments.
pub mod Runs
-- What the promises speak of beside one call, and what they are proved with.
pub mod Ways
pub mod Rooms
