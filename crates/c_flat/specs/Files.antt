-- What the tz_ calls on PGM files leave: 0 or the refusal's number, and all lent memory, as the calls beneath them give it.
-- The quoted sentences are document 01's; docs/RULES.md, 8, has the calls.
-- Assumes nothing.
use Rattle.std.specs.Prelude.{ℕ, ◌-◌, List, [], ◌∷◌}
use Rattle.base_rows.specs.Refuse.{Says, accepted, refused}
use Rattle.pgm_header.specs.Header.{Head}
use Rattle.pgm_greys.specs.Greys.{GreysOut}
use Rattle.pgm_write.specs.Write.{WriteOut}
use Rattle.c_flat.specs.Flat.{returned}

-- "one answer can't hold numbers and a part": the number returned, and the numbers or the target that were lent for the rest
pub record Answer : Type 0 where
  pub number : ℕ
  pub values : List ℕ

-- a number and lent numbers as one
abbrev pub answered : ℕ → List ℕ → Answer
answered n values = record { number = n; values = values }

-- "for the sizes and maxval": width, height and maxval; a refusal leaves what stood there
unfoldable pub flat_sizes : Says (ℕ × ℕ × ℕ) → List ℕ → Answer
flat_sizes (accepted v) old = answered 0 (v.0 ∷ v.1 ∷ v.2 ∷ [])
flat_sizes (refused n) old = answered n old

-- tz_read_raster hands out where the raster starts and how long it is, in a file of `size` bytes; a refusal leaves what stood there
unfoldable pub flat_raster : Head → ℕ → List ℕ → Answer
flat_raster (Head.Found w h m at) size old = answered 0 (at ∷ (size - at) ∷ [])
flat_raster (Head.Refused n) size old = answered n old

-- "a second call turns it into greys": from what that call leaves
unfoldable pub flat_greys : GreysOut → Answer
flat_greys g = answered (returned g.answer) g.target

-- "returns the byte count": what tz_write and tz_listing leave, the count in a cell of its own
pub record FlatWritten : Type 0 where
  pub number : ℕ
  pub out : List ℕ
  pub count : ℕ

-- a number, an output and a count as one
abbrev pub written_as : ℕ → List ℕ → ℕ → FlatWritten
written_as n out count = record { number = n; out = out; count = count }

-- an accepted film's byte count in its cell; a refusal leaves what stood there
abbrev pub written_by : Says ℕ → List ℕ → ℕ → FlatWritten
written_by (accepted k) out count = written_as 0 out k
written_by (refused n) out count = written_as n out count

-- from what write leaves, and what the count's cell held before
unfoldable pub flat_written : WriteOut → ℕ → FlatWritten
flat_written w count = written_by w.answer w.out count
