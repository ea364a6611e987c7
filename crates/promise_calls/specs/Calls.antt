-- What is promised of every call alike, on films of 16 bits, of bytes and from counts: the factor used, the bins that Min and Max lie in, and 31.
-- Assumes nothing.
use Rattle.std.specs.Prelude.{ℕ, ◌+◌, ◌-◌, ◌*◌, ◌≤◌, ◌<◌, true, List, ◌⊎◌, ◌≡◌, Float, get_or}
use Rattle.std.specs.Float.Ieee.{le}
use Rattle.base_rows.specs.Refuse.{Says, refused}
use Rattle.tile_bin.specs.Binning.{bin_of}
use Rattle.film_settings.specs.declared.Settings.{Settings}
use Rattle.film_settings.specs.Settings.{bins_of}
use Rattle.film_tiles.specs.Tiles.{one}
use Rattle.promise_films.specs.Films.{BinUnreached}

-- order 2: the factor used may be above the factor asked, but is never below 1.0
abbrev pub NotBelowOne : Float → Type 0
NotBelowOne f = le one f ≡ true

-- order 3, "in a strongly clipped tile the whites stop well short of Max": no more, in a map buffer that holds the tiles' mappings
pub record WhitesReach (s : Settings) (m : List ℕ) : Type 0 where
  -- Min lies in the first bin
  pub black : bin_of s.min s.max (bins_of s) s.min ≡ 0
  -- Max in the last
  pub white : bin_of s.min s.max (bins_of s) s.max ≡ bins_of s - 1
  -- and in every tile the mapping of Max's bin is Max
  pub reach : (k : ℕ) → k < s.across * s.down → get_or m (k * bins_of s + bin_of s.min s.max (bins_of s) s.max) 0 ≡ s.max

-- "31, bins (after 0 is read as 128) above R + 1, after 9": given exactly where some bin has no grey of the range and none of 1 to 9 applies, of what a call with these settings says
pub record Exactly31 {A : Type 0} (said : Says A) (s : Settings) : Type 0 where
  pub given : said ≡ refused 31 → BinUnreached s
  pub unreached : BinUnreached s → (n : ℕ) × ((0 < n) × ((n ≤ 9) ⊎ (n ≡ 31))) × (said ≡ refused n)
