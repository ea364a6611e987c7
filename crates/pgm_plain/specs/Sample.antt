-- What stands at a place where a sample of a plain PGM is due.
-- Assumes nothing.
use Rattle.std.specs.Prelude.{ℕ}

-- a sample's grey with the place behind it, or its refusal
pub data Sample : Type 0 where
  Grey : (v end : ℕ) → Sample
  Refused : ℕ → Sample
