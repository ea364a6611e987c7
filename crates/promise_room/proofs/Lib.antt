-- The promises: theorems over the calls' contracts. docs/PROMISES.md lists each of them.
pub mod Order11
-- The calls by the names of their arguments, and sequences of them.
pub mod Runs
mod Histories
-- What they are proved with, and the films and draws that the promises speak of.
pub mod Outcomes
pub mod Kept
pub mod Alone
mod Rules
