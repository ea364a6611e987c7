-- Order 13: what the theorems of around speak of, beside its contract.
-- w and h are the film's width and height, pic its pixels, side the region's; a name with ' is another film's.
-- Assumes nothing.
use Rattle.std.specs.Prelude.{ℕ, ◌+◌, ◌*◌, ◌/◌, ◌%◌, ◌≤◌, ◌<◌, true, cond, List, [], ◌∷◌, ◌++◌, ◌⊎◌, ◌≡◌, Float, length, get_or}
use Rattle.base_rows.specs.Refuse.{Row, row, scratch_row}
use Rattle.tile_limit.specs.Limit.{limit_of}
use Rattle.tile_clip1986.specs.Older.{level_of}
use Rattle.tile_bin.specs.Binning.{bin_of}
use Rattle.tile_count.specs.Tally.{greys_of, counts_of}
use Rattle.tile_map.specs.Tile.{tile_counts}
use Rattle.film_settings.specs.declared.Settings.{Settings}
use Rattle.film_settings.specs.Settings.{bins_of, clip_one_of, size_rows, grey_rows}
use Rattle.tile_slide.specs.Slide.{region_rect}
use Rattle.film_around.specs.Around.{region_rows, region_pixels, region_mapping, around_grey}
use Rattle.promise_films.specs.Films.{TileSound}
use Rattle.promise_films.specs.Older.{TileOlder}

-- "39 .. in the place of 3 to 6", "11 is never given", and no list is lent
pub data NeverGiven : ℕ → Type 0 where
  three : NeverGiven 3
  four : NeverGiven 4
  five : NeverGiven 5
  six : NeverGiven 6
  eleven : NeverGiven 11
  listless : NeverGiven 32

-- "an odd side from 3 to 63"
pub record SideFits (side : ℕ) : Type 0 where
  pub odd : side % 2 ≡ 1
  pub least : 3 ≤ side
  pub most : side ≤ 63

-- "17 for the target as in order 12", "after 12": where the target has another length, 1, 2, 39, 7 to 9, 31, 10 and 12, and 17 else
abbrev pub other_rows : (w h : ℕ) (pic : List ℕ) (side : ℕ) (s : Settings) (scratch : ℕ) → List Row
other_rows w h pic side s scratch = size_rows w h (length pic) ++ (region_rows side ++ (grey_rows s ++ (scratch_row scratch (2 * bins_of s) ∷ row 17 true ∷ [])))

-- the settings that around reads: bins 0 as 128, and no grid
abbrev pub gridless : Settings → Settings
gridless s = record { across = 0; down = 0; bins = bins_of s; min = s.min; max = s.max; clip = s.clip; edition = s.edition }

-- what is shown of a pixel: "The grey is the mapping of the pixel's own bin", "factor 1.0 copies the film"
unfoldable pub shown_around : (w h : ℕ) (pic : List ℕ) (side : ℕ) (s : Settings) (x y : ℕ) → ℕ
shown_around w h pic side s x y = cond (clip_one_of s.clip) (get_or pic (y * w + x) 0) (around_grey w h pic side s x y)

-- "the region centred on the pixel and cut off at the film's border": the pixel in column u and row v is one of the film's, and at most half a side away from the one in column x and row y
pub record Near (w h side x y u v : ℕ) : Type 0 where
  pub across : u < w
  pub down : v < h
  pub left : x ≤ u + side / 2
  pub right : u ≤ x + side / 2
  pub above : y ≤ v + side / 2
  pub below : v ≤ y + side / 2

-- the raw counts of the region around a pixel
abbrev pub region_raw : (w h : ℕ) (pic : List ℕ) (side : ℕ) (s : Settings) (x y : ℕ) → List ℕ
region_raw w h pic side s x y = counts_of s.min s.max (bins_of s) (greys_of pic w (region_rect w h side x y))

-- its clipped counts, the raw ones where the clip is off
abbrev pub region_counts : (w h : ℕ) (pic : List ℕ) (side : ℕ) (s : Settings) (x y : ℕ) → List ℕ
region_counts w h pic side s x y = tile_counts s.min s.max (bins_of s) s.edition s.clip (greys_of pic w (region_rect w h side x y))

-- its limit with the factor f: L of this region's own N
abbrev pub region_limit : (w h side : ℕ) (s : Settings) (f : Float) (x y : ℕ) → ℕ
region_limit w h side s f x y = limit_of f (region_pixels w h side x y) (bins_of s)

-- "the pixel's own bin"
abbrev pub own_bin : (w : ℕ) (pic : List ℕ) (s : Settings) (x y : ℕ) → ℕ
own_bin w pic s x y = bin_of s.min s.max (bins_of s) (get_or pic (y * w + x) 0)

-- "demand 3's .. facts for every region": of the mapping by which this pixel is shown, as v
pub record RegionSound (w h : ℕ) (pic : List ℕ) (side : ℕ) (s : Settings) (f : Float) (x y v : ℕ) : Type 0 where
  pub sound : TileSound s.min s.max (region_pixels w h side x y) (bins_of s) (region_limit w h side s f x y) (region_raw w h pic side s x y) (region_counts w h pic side s x y)
      (λ b. get_or (region_mapping w h pic side s x y) b 0)
  pub bin : own_bin w pic s x y < bins_of s
  pub shown : v ≡ get_or (region_mapping w h pic side s x y) (own_bin w pic s x y) 0

-- "(or order 8's)", in the edition of 1986
pub record RegionOlder (w h : ℕ) (pic : List ℕ) (side : ℕ) (s : Settings) (f : Float) (x y v : ℕ) : Type 0 where
  pub older : TileOlder s.min s.max (region_pixels w h side x y) (bins_of s) (region_limit w h side s f x y) (level_of (region_limit w h side s f x y) (region_raw w h pic side s x y))
      (region_raw w h pic side s x y) (region_counts w h pic side s x y) (λ b. get_or (region_mapping w h pic side s x y) b 0)
  pub bin : own_bin w pic s x y < bins_of s
  pub shown : v ≡ get_or (region_mapping w h pic side s x y) (own_bin w pic s x y) 0

-- a film that is a part of another, from column `left` and row `top` on
pub record Part (w h : ℕ) (pic : List ℕ) (left top w' h' : ℕ) (pic' : List ℕ) : Type 0 where
  pub across : left + w' ≤ w
  pub down : top + h' ≤ h
  pub same : (x y : ℕ) → x < w' → y < h' → get_or pic' (y * w' + x) 0 ≡ get_or pic ((top + y) * w + (left + x)) 0

-- before a column (or row) x of the part there is half a side, or the part begins at the film's border
abbrev pub MarginBefore : ℕ → ℕ → ℕ → Type 0
MarginBefore side from x = (from ≡ 0) ⊎ (side / 2 ≤ x)

-- and behind it there is half a side, or the part ends at the film's border
abbrev pub MarginBehind : (side most from part x : ℕ) → Type 0
MarginBehind side most from part x = (from + part ≡ most) ⊎ (x + side / 2 < part)

-- a column (or row) of the part, which begins at `from` of the film's `most` and has `part` of them, with its margin on both sides
pub record Margin (side most from part x : ℕ) : Type 0 where
  pub below : x < part
  pub before : MarginBefore side from x
  pub behind : MarginBehind side most from part x
