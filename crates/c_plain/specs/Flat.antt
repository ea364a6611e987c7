-- What tz_read_plain leaves: 0 or the refusal's number, the sizes in their cells, and the target, as read_plain gives them.
-- The quoted sentences are document 01's, "What each call hands back".
-- Assumes nothing.
use Rattle.std.specs.Prelude.{ℕ, List, [], ◌∷◌}
use Rattle.base_rows.specs.Refuse.{Says, accepted, refused}
use Rattle.pgm_plain_read.specs.PlainRead.{PlainRead}

-- "A refusal returns its number alone": the number returned, and the sizes' cells and the target that were lent
pub record FlatRead : Type 0 where
  pub number : ℕ
  pub sizes : List ℕ
  pub target : List ℕ

-- a number, the sizes' cells and a target as one
abbrev pub read_as : ℕ → List ℕ → List ℕ → FlatRead
read_as n sizes target = record { number = n; sizes = sizes; target = target }

-- width, height and maxval in their cells; a refusal leaves what stood there
abbrev pub read_by : Says (ℕ × ℕ × ℕ) → List ℕ → List ℕ → FlatRead
read_by (accepted v) old target = read_as 0 (v.0 ∷ v.1 ∷ v.2 ∷ []) target
read_by (refused n) old target = read_as n old target

-- from what read_plain leaves, and what the sizes' cells held before
unfoldable pub flat_read : PlainRead → List ℕ → FlatRead
flat_read p old = read_by p.answer old p.target
