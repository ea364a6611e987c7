-- The promises: theorems over the calls' contracts, by demand and by order. docs/PROMISES.md lists each of them.
pub mod Demand1
pub mod Demand2
pub mod Demand3
pub mod Order1
pub mod Order3
pub mod Order6
pub mod Order7
pub mod Order8
-- The calls by the names of their arguments.
pub mod Runs
-- What they are proved with.
pub mod Inside
pub mod Ended
pub mod Either
mod Alike
mod Left
mod Wide
