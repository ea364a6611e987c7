-- Document 01, refusals 13 and 26: whether greys lie in a range.
-- Assumes nothing.
use Rattle.std.specs.Prelude.{ℕ, Bool, ◌&&◌, leb}

-- "All pixels lie in it": a grey from Min to Max
unfoldable pub within : ℕ → ℕ → ℕ → Bool
within lo hi v = leb lo v && leb v hi
