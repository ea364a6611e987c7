-- Document 01, "Settings and sizes", and the rows of the refusal table that prepare, enhance and draw share.
-- Assumes nothing.
use Rattle.std.specs.Prelude.{ℕ, ◌+◌, ◌-◌, ◌*◌, ◌≤◌, ◌<◌, Bool, true, false, not, cond, List, [], ◌∷◌, ◌++◌, ◌≡◌, leb, ltb, eqb}
use Rattle.std.specs.Float.Ieee.{eq}
use Rattle.base_lists.specs.Lists.{all}
use Rattle.tile_limit.specs.declared.Clip.{Clip}
use Rattle.tile_limit.specs.declared.Clip.TheVariants.{Off, Factor}
use Rattle.tile_limit.specs.declared.Edition.{Edition}
use Rattle.tile_limit.specs.declared.Edition.TheVariants.{Ours, Of1986}
use Rattle.tile_limit.specs.Limit.{allowed, is_one}
use Rattle.pixel_grid.specs.Grid.{axis_of, no_axis_of}
use Rattle.base_range.specs.Scan.{within}
use Rattle.base_rows.specs.Refuse.{Row, row, length_row}
use Rattle.film_settings.specs.declared.Settings.{Settings}
use Rattle.film_settings.specs.declared.MapRecord.{MapRecord}

-- "Bins B: 2 to 4096. 0 means 128."
unfoldable pub bins_of : Settings → ℕ
bins_of s = cond (eqb s.bins 0) 128 s.bins

-- the settings "with bins 0 kept as 128"
abbrev pub kept_of : Settings → Settings
kept_of s = record { across = s.across; down = s.down; bins = bins_of s; min = s.min; max = s.max; clip = s.clip; edition = s.edition }

-- "A map record holds the film's number .., sizes and settings, with bins 0 kept as 128."; order 6: "The map record keeps the edges and centres"
unfoldable pub record_of : ℕ → ℕ → ℕ → Settings → MapRecord
record_of film w h s =
    record { film = film; width = w; height = h; settings = kept_of s; columns = axis_of w s.across; rows = axis_of h s.down }

-- a record as draw reads it, "bins 0 read as 128 on both sides": all else as it is
abbrev pub kept_record : MapRecord → MapRecord
kept_record r =
    record { film = r.film; width = r.width; height = r.height; settings = kept_of r.settings; columns = r.columns; rows = r.rows }

-- "A refusal returns its number alone": no settings stand beside it
unfoldable pub no_settings : Settings
no_settings = record { across = 0; down = 0; bins = 0; min = 0; max = 0; clip = Off; edition = Ours }

-- nor any record
unfoldable pub no_record_of : MapRecord
no_record_of = record { film = 0; width = 0; height = 0; settings = no_settings; columns = no_axis_of; rows = no_axis_of }

-- "(grid across) x (grid down) x B"
abbrev pub entries_of : Settings → ℕ
entries_of s = s.across * s.down * bins_of s

-- 10: "factor NaN, infinite, below 1.0 or above 1024.0"
abbrev pub clip_bad_of : Clip → Bool
clip_bad_of Off = false
clip_bad_of (Factor f) = not (allowed f)

-- "exactly 1.0"
abbrev pub clip_one_of : Clip → Bool
clip_one_of Off = false
clip_one_of (Factor f) = is_one f

-- two clip settings are the same: both off, or two factors that are equal as numbers
unfoldable pub same_clip_of : Clip → Clip → Bool
same_clip_of Off Off = true
same_clip_of Off (Factor g) = false
same_clip_of (Factor f) Off = false
same_clip_of (Factor f) (Factor g) = eq f g

-- order 8, "The edition is a setting, so it is part of what 15 compares": two editions are the same
unfoldable pub same_edition_of : Edition → Edition → Bool
same_edition_of Ours Ours = true
same_edition_of Ours Of1986 = false
same_edition_of Of1986 Ours = false
same_edition_of Of1986 Of1986 = true

-- 1: "width or height is 0 or above 4096"
unfoldable pub side_rows : ℕ → ℕ → List Row
side_rows w h = row 1 (eqb w 0) ∷ row 1 (ltb 4096 w) ∷ row 1 (eqb h 0) ∷ row 1 (ltb 4096 h) ∷ []

-- 2: "picture length is not width x height"
unfoldable pub length_rows : ℕ → ℕ → ℕ → List Row
length_rows w h size = length_row w h size ∷ []

-- 1 and 2
unfoldable pub size_rows : ℕ → ℕ → ℕ → List Row
size_rows w h size = side_rows w h ++ length_rows w h size

-- 3 and 4: "grid across / down is not 2 to 16"; order 6: "5 and 6 now mean a side shorter than the grid"
unfoldable pub grid_rows : ℕ → ℕ → Settings → List Row
grid_rows w h s =
    row 3 (ltb s.across 2)
    ∷ row 3 (ltb 16 s.across)
    ∷ row 4 (ltb s.down 2)
    ∷ row 4 (ltb 16 s.down)
    ∷ row 5 (ltb w s.across)
    ∷ row 6 (ltb h s.down)
    ∷ []

-- 7 to 9: "Max above 4095 / Min not below Max", "bins 1 or above 4096"; 31: "bins (after 0 is read as 128) above R + 1, after 9", with R = Max - Min
unfoldable pub range_rows : Settings → List Row
range_rows s =
    row 7 (ltb 4095 s.max)
    ∷ row 8 (leb s.max s.min)
    ∷ row 9 (eqb s.bins 1)
    ∷ row 9 (ltb 4096 s.bins)
    ∷ row 31 (ltb (s.max - s.min + 1) (bins_of s))
    ∷ []

-- 10: "factor NaN, infinite, below 1.0 or above 1024.0"
unfoldable pub clip_rows : Settings → List Row
clip_rows s = row 10 (clip_bad_of s.clip) ∷ []

-- 7 to 9, 31 and 10
unfoldable pub grey_rows : Settings → List Row
grey_rows s = range_rows s ++ clip_rows s

-- 11: "map buffer shorter than (grid across) x (grid down) x B"
unfoldable pub room_rows : Settings → ℕ → List Row
room_rows s room = row 11 (ltb room (entries_of s)) ∷ []

-- 13: "a pixel outside Min to Max", of the greys that a call looks at
abbrev pub outside_row : List ℕ → Settings → Row
outside_row greys s = row 13 (not (all (within s.min s.max) greys))

-- the rows 1 to 9, 31 and 10
unfoldable pub setting_rows : ℕ → ℕ → ℕ → Settings → List Row
setting_rows w h size s = size_rows w h size ++ (grid_rows w h s ++ grey_rows s)

-- the rows 1 to 9, 31, 10 and 11
unfoldable pub shared_rows : (w h size : ℕ) (s : Settings) (room : ℕ) → List Row
shared_rows w h size s room = setting_rows w h size s ++ room_rows s room

-- what a call knows of a film's tiles once none of the rows of sides, grid and range applies
pub record Tiled (w h : ℕ) (s : Settings) : Type 0 where
  pub wide : 0 < w
  pub widest : w ≤ 4096
  pub high : 0 < h
  pub highest : h ≤ 4096
  pub across : 2 ≤ s.across
  pub acrossmost : s.across ≤ 16
  pub down : 2 ≤ s.down
  pub downmost : s.down ≤ 16
  pub columns : s.across ≤ w
  pub rows : s.down ≤ h
  pub max : s.max ≤ 4095
  pub min : s.min < s.max
  pub bins : 2 ≤ bins_of s
  pub binsmost : bins_of s ≤ 4096
  pub reach : bins_of s ≤ s.max - s.min + 1

-- what a call knows once none of the rows 1 to 9, 31, 10 and 11 applies
pub record Ready (w h size : ℕ) (s : Settings) (room : ℕ) : Type 0 where
  pub tiled : Tiled w h s
  pub whole : size ≡ w * h
  pub clip : clip_bad_of s.clip ≡ false
  pub fitting : entries_of s ≤ room
