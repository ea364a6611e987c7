-- Pixels of bins from the mapped values of their four tiles. The mappings lie tile by tile in a map buffer, m.
-- Assumes nothing.
use Rattle.std.specs.Prelude.{ℕ, ◌+◌, ◌*◌, ◌≤◌, ◌<◌, true, List, ◌≡◌, length, get_or, take}
use Rattle.base_lists.specs.Lists.{tab, all}
use Rattle.base_range.specs.Scan.{within}
use Rattle.tile_count.specs.Tally.{Scale}
use Rattle.pixel_place.specs.declared.Place.{Place}
use Rattle.pixel_place.specs.Blend.{grey_of, Sound, moved}
use Rattle.film_settings.specs.declared.Settings.{Settings}
use Rattle.film_settings.specs.Settings.{bins_of, entries_of}

-- the mapped value of bin k of the tile in tile row j and tile column i: "tiles row by row, bins upward"
unfoldable pub mapped_at : (s : Settings) (m : List ℕ) (j i k : ℕ) → ℕ
mapped_at s m j i k = get_or m ((j * s.across + i) * bins_of s + k) 0

-- "With A, B', C, D the four tiles' mapped values (upper left, upper right, lower left, lower right) of the pixel's bin": the grey of a pixel of bin k at these places
unfoldable pub corners_of : Settings → List ℕ → Place → Place → ℕ → ℕ
corners_of s m column row k =
    grey_of column row
    (mapped_at s m row.lower column.lower k)
    (mapped_at s m row.lower column.upper k)
    (mapped_at s m row.upper column.lower k)
    (mapped_at s m row.upper column.upper k)

-- such pixels between the same tiles, of bins ks
unfoldable pub weighed_run : Settings → List ℕ → Place → Place → List ℕ → List ℕ
weighed_run s m column row ks = tab (length ks) (λ i. corners_of s m (moved column i) row (get_or ks i 0))

-- ---- what the functions ask

-- settings and mappings: grid, range and bins within document 01's bounds, and mapped values from Min to Max
pub record Maps (s : Settings) (m : List ℕ) : Type 0 where
  pub across : s.across ≤ 16
  pub down : s.down ≤ 16
  pub scale : Scale s.min s.max (bins_of s)
  pub room : entries_of s ≤ length m
  pub greys : all (within s.min s.max) (take (entries_of s) m) ≡ true

-- what a pixel of bin k asks
pub record CornerAsks (s : Settings) (m : List ℕ) (atcolumn atrow : Place) (k : ℕ) : Type 0 where
  pub maps : Maps s m
  pub column : Sound s.across 2048 atcolumn
  pub row : Sound s.down 2048 atrow
  pub bin : k < bins_of s

-- what a run asks: the same of each pixel, and no more of them than the weight can move by
pub record WeighAsks (s : Settings) (m : List ℕ) (atcolumn atrow : Place) (ks : List ℕ) : Type 0 where
  pub maps : Maps s m
  pub column : Sound s.across 2048 atcolumn
  pub row : Sound s.down 2048 atrow
  pub room : length ks ≤ atcolumn.lowerweight
  pub bins : (i : ℕ) → i < length ks → get_or ks i 0 < bins_of s
