-- The promises: theorems over the calls' contracts. docs/PROMISES.md lists each of them.
pub mod Order10
-- What the promises speak of beside one call.
pub mod Rendered
pub mod Reach
-- What they are proved with.
pub mod Shown
