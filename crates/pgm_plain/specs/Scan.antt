-- What a look at the samples of a plain PGM finds.
-- Assumes nothing.
use Rattle.std.specs.Prelude.{ℕ}

-- where the samples end, or the refusal of the first that is not in order
pub data Scan : Type 0 where
  Done : ℕ → Scan
  Refused : ℕ → Scan
