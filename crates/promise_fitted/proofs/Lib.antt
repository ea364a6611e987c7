-- The promises: theorems over the calls' contracts. docs/PROMISES.md lists each of them.
pub mod Order6
-- What they are proved with.
mod Tables
mod Calls
mod Listing
