-- Document 01, "What each call hands back" for turning a raster into greys, and the refusals 22 to 27.
-- A file is a list of bytes. w, h and m are width, height and maxval.
-- Assumes nothing.
use Rattle.std.specs.Prelude.{ℕ, ◌-◌, ◌*◌, ◌≤◌, true, List, [], ◌∷◌, ◌++◌, ◌≡◌, length, drop}
use Rattle.base_lists.specs.Lists.{onto}
use Rattle.base_rows.specs.Refuse.{Row, short_row, first, unless, Says, accepted, refused}
use Rattle.pgm_samples.specs.Samples.{is_wide, unpacked, none_above_of}
use Rattle.pgm_raster.specs.Raster.{head_rows, above_row, raster_rows, RasterAsks}

-- 27 and 26: "the caller's target too short", "a sample above maxval"
unfoldable pub target_rows : (bytes : List ℕ) (start w h m room : ℕ) → List Row
target_rows bytes start w h m room =
    short_row room (w * h) ∷ above_row m (unpacked (is_wide m) (drop start bytes) (w * h)) ∷ []

-- "Turning a raster into greys: 22, 23, 24, 25, 27, 26": the raster is what stands in `bytes` from `start` on, `room` the target's length
unfoldable pub turn_rows : (bytes : List ℕ) (start w h m room : ℕ) → List Row
turn_rows bytes start w h m room =
    head_rows w h m ++ (raster_rows w h m (length bytes - start) ++ target_rows bytes start w h m room)

-- what the rows for greys tell where none applies: a raster, none of its samples above maxval, and room in the target
pub record GreyAsks (bytes : List ℕ) (start w h m room : ℕ) : Type 0 where
  pub raster : RasterAsks bytes start w h m
  pub fitting : w * h ≤ room
  pub bounded : none_above_of m (unpacked (is_wide m) (drop start bytes) (w * h)) ≡ true

-- what the call leaves: its answer, which is no value where the greys were laid down, or a refusal, and the target
pub record GreysOut : Type 0 where
  pub answer : Says (Unit {0})
  pub target : List ℕ

-- an answer and a target as one
abbrev pub greys_leave : Says (Unit {0}) → List ℕ → GreysOut
greys_leave answer target = record { answer = answer; target = target }

-- greys of a raster: the first row that applies, and the target stays as it was, else the greys at its front: "entries behind the last grey keep their contents"
unfoldable pub turned_of : (bytes : List ℕ) (start w h m : ℕ) (target : List ℕ) → GreysOut
turned_of bytes start w h m target =
    unless (first (turn_rows bytes start w h m (length target))) (λ n. greys_leave (refused n) target)
    (greys_leave (accepted tt) (onto target (unpacked (is_wide m) (drop start bytes) (w * h))))
