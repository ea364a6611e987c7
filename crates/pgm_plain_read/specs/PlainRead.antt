-- Order 9: what reading a plain PGM answers and leaves, and its refusals.
-- A file is a list of bytes. w, h and m are width, height and maxval, `at` is where the samples start and `room` the target's length.
-- Assumes nothing.
use Rattle.std.specs.Prelude.{ℕ, ◌*◌, ◌≤◌, true, not, List, [], ◌∷◌, ◌++◌, ◌≡◌, eqb, length, drop}
use Rattle.base_lists.specs.Lists.{onto}
use Rattle.base_rows.specs.Refuse.{Row, row, short_row, first, unless, Says, accepted, refused}
use Rattle.pgm_header.specs.Header.{Head}
use Rattle.pgm_header.specs.Header.{white_of}
use Rattle.pgm_raster.specs.Raster.{head_rows, RasterLimits}
use Rattle.pgm_plain.specs.Scan.{Scan}
use Rattle.pgm_plain.specs.Plain.{plain_head_of, scan_of, greys_from}

-- "then 24 or 26 at the first sample", the number that the samples meet, and "then 25", a byte behind the last of them that is no white space
unfoldable pub sample_rows : Scan → List ℕ → List Row
sample_rows (Scan.Done e) s = row 25 (not (eqb (white_of (drop e s) e) (length s))) ∷ []
sample_rows (Scan.Refused n) s = row n true ∷ []

-- 22 and 23 "as 01 does, then 27, then 24 or 26 at the first sample", and "then 25"
unfoldable pub plain_rows : (s : List ℕ) (w h m at room : ℕ) → List Row
plain_rows s w h m at room = head_rows w h m ++ (short_row room (w * h) ∷ sample_rows (scan_of (w * h) m s at) s)

-- what the rows tell where none applies: samples that are in order, nothing but white space behind them, and room for their greys
pub record PlainAsks (s : List ℕ) (w h m at room : ℕ) : Type 0 where
  pub within : RasterLimits w h m
  pub fitting : w * h ≤ room
  pub end : ℕ
  pub sound : scan_of (w * h) m s at ≡ Scan.Done end
  pub tail : white_of (drop end s) end ≡ length s

-- what the call leaves: its answer and the target
pub record PlainRead : Type 0 where
  pub answer : Says (ℕ × ℕ × ℕ)
  pub target : List ℕ

-- an answer and a target as one
abbrev pub plain_read_as : Says (ℕ × ℕ × ℕ) → List ℕ → PlainRead
plain_read_as answer target = record { answer = answer; target = target }

-- a file whose header was found: the first row that applies, and the target as it was; else its sizes, and the greys at the target's front
unfoldable pub samples_of : (s : List ℕ) (w h m at : ℕ) (target : List ℕ) → PlainRead
samples_of s w h m at target =
    unless (first (plain_rows s w h m at (length target))) (λ n. plain_read_as (refused n) target)
    (plain_read_as (accepted (w, h, m)) (onto target (greys_from (w * h) m s at)))

-- by what the header is found to be: a refusal of the header leaves the target as it was
abbrev pub by_head : Head → List ℕ → List ℕ → PlainRead
by_head (Head.Found w h m at) s target = samples_of s w h m at target
by_head (Head.Refused n) s target = plain_read_as (refused n) target

-- "Read P2": a whole file
unfoldable pub plain_of : List ℕ → List ℕ → PlainRead
plain_of s target = by_head (plain_head_of s) s target

-- its sizes alone, "20 (with P2) to 23 as 01 does"
unfoldable pub limited_of : Head → Says (ℕ × ℕ × ℕ)
limited_of (Head.Found w h m at) = unless (first (head_rows w h m)) refused (accepted (w, h, m))
limited_of (Head.Refused n) = refused n
