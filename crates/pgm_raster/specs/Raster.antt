-- Document 01, the refusals 22 to 25: the limits of a raster, and how many bytes it takes.
-- A file is a list of bytes. w, h and m are width, height and maxval.
-- Assumes nothing.
use Rattle.std.specs.Prelude.{ℕ, ◌+◌, ◌*◌, ◌≤◌, ◌<◌, not, List, [], ◌∷◌, ◌≡◌, ltb, eqb, length}
use Rattle.base_rows.specs.Refuse.{Row, row}
use Rattle.pgm_samples.specs.Samples.{is_wide, sample_bytes, none_above_of}

-- the bytes of a raster: "samples take one byte if maxval is below 256, else two"
abbrev pub raster_size_of : (w h m : ℕ) → ℕ
raster_size_of w h m = w * h * sample_bytes (is_wide m)

-- 22 and 23: "size as in 1 / maxval 0 or above 4095"
unfoldable pub head_rows : ℕ → ℕ → ℕ → List Row
head_rows w h m =
    row 22 (eqb w 0) ∷ row 22 (ltb 4096 w) ∷ row 22 (eqb h 0) ∷ row 22 (ltb 4096 h) ∷ row 23 (eqb m 0) ∷ row 23 (ltb 4095 m) ∷ []

-- 26: "a sample above maxval"
abbrev pub above_row : ℕ → List ℕ → Row
above_row m greys = row 26 (not (none_above_of m greys))

-- 24 and 25: "raster too short / bytes behind it", of a raster of `size` bytes
unfoldable pub raster_rows : (w h m size : ℕ) → List Row
raster_rows w h m size = row 24 (ltb size (raster_size_of w h m)) ∷ row 25 (ltb (raster_size_of w h m) size) ∷ []

-- what the rows 22 and 23 tell where none applies
pub record RasterLimits (w h m : ℕ) : Type 0 where
  pub wide : 0 < w
  pub widest : w ≤ 4096
  pub high : 0 < h
  pub highest : h ≤ 4096
  pub maxval_some : 0 < m
  pub maxval_most : m ≤ 4095

-- what the rows 22 to 25 tell where none applies: from `start` on there is a raster of exactly the picture's samples
pub record RasterAsks (bytes : List ℕ) (start w h m : ℕ) : Type 0 where
  pub within : RasterLimits w h m
  pub exact : start + raster_size_of w h m ≡ length bytes
