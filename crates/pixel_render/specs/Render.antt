-- Document 01, "From mappings to grey": pixels of the rendered film, from mappings that lie tile by tile in a map buffer.
-- w and h are the film's width and height, m the map buffer.
-- Assumes nothing.
use Rattle.std.specs.Prelude.{ℕ, zero, suc, ◌+◌, ◌-◌, ◌*◌, ◌≤◌, ◌<◌, min, true, List, ◌≡◌, length, get_or, take, drop}
use Rattle.base_lists.specs.Lists.{tab, sum, joined, all}
use Rattle.base_range.specs.Scan.{within}
use Rattle.tile_bin.specs.Binning.{bin_of}
use Rattle.tile_count.specs.declared.Rect.{Rect}
use Rattle.pixel_grid.specs.Grid.{Fits}
use Rattle.pixel_place.specs.declared.Place.{Place}
use Rattle.pixel_place.specs.Blend.{place_of, Sound, SameTiles, length_of}
use Rattle.film_settings.specs.declared.Settings.{Settings}
use Rattle.film_settings.specs.declared.Window.{Window}
use Rattle.film_settings.specs.Settings.{bins_of}
use Rattle.pixel_sums.specs.Sums.{sums_moved}
use Rattle.pixel_weigh.specs.Weigh.{corners_of, Maps}
use Rattle.pixel_bins.specs.Bins.{binned_of}
use Rattle.pixel_render.specs.declared.Section.{Section}

-- the grey from the four tiles' mapped values "of the pixel's bin": v is the pixel's grey
unfoldable pub pixel_of : Settings → List ℕ → Place → Place → ℕ → ℕ
pixel_of s m column row v = corners_of s m column row (bin_of s.min s.max (bins_of s) v)

-- the place of column x among the tiles across
abbrev pub column_place : ℕ → Settings → ℕ → Place
column_place w s x = place_of w s.across x

-- and of row y among the tiles down
abbrev pub row_place : ℕ → Settings → ℕ → Place
row_place h s y = place_of h s.down y

-- the rendered grey of the pixel in column x and row y, whose grey is v
unfoldable pub rendered_of : (w h : ℕ) (s : Settings) (m : List ℕ) (x y v : ℕ) → ℕ
rendered_of w h s m x y v = pixel_of s m (column_place w s x) (row_place h s y) v

-- a row of rendered pixels from column `left` on, at the row's place; vs are their greys
unfoldable pub row_of : (w : ℕ) (s : Settings) (m : List ℕ) (left : ℕ) (row : Place) (vs : List ℕ) → List ℕ
row_of w s m left row vs = tab (length vs) (λ i. pixel_of s m (column_place w s (left + i)) row (get_or vs i 0))

-- ---- by bins

-- a row of pixels of bins ks from column `left` on
unfoldable pub weighed_row : (w : ℕ) (s : Settings) (m : List ℕ) (left : ℕ) (row : Place) (ks : List ℕ) → List ℕ
weighed_row w s m left row ks = tab (length ks) (λ i. corners_of s m (column_place w s (left + i)) row (get_or ks i 0))

-- ---- how many sums of a row move

-- how many of n pixels from column x on lie between the tiles of x
abbrev pub section_of : (w grid x n : ℕ) → ℕ
section_of w grid x n = min (length_of w grid x (place_of w grid x)) n

-- how many sums move in the next `parts` sections of a row: ks are the bins of its pixels from column x on, and each section is a run of its own
unfoldable pub moved_parts : (w : ℕ) (s : Settings) (room parts x : ℕ) (ks : List ℕ) → ℕ
moved_parts w s room zero x ks = 0
moved_parts w s room (suc parts) x ks =
    sums_moved room (take (section_of w s.across x (length ks)) ks)
    + moved_parts w s room parts (x + section_of w s.across x (length ks)) (drop (section_of w s.across x (length ks)) ks)

-- in all of them, which are no more than its pixels
unfoldable pub moved_row : (w : ℕ) (s : Settings) (left room : ℕ) (ks : List ℕ) → ℕ
moved_row w s left room ks = moved_parts w s room (length ks) left ks

-- ---- a window

-- "the window's pixels row by row": vs are the greys of the window's pixels, row by row
unfoldable pub render_of : (w h : ℕ) (s : Settings) (m : List ℕ) (win : Window) (vs : List ℕ) → List ℕ
render_of w h s m win vs =
    joined win.height (λ j. tab win.width (λ i. rendered_of w h s m (win.left + i) (win.top + j) (get_or vs (j * win.width + i) 0)))

-- how many of its sums move
unfoldable pub moved_window : (w : ℕ) (s : Settings) (win : Window) (room : ℕ) (vs : List ℕ) → ℕ
moved_window w s win room vs = sum win.height (λ j. moved_row w s win.left room (binned_of s (take win.width (drop (j * win.width) vs))))

-- the whole film
abbrev pub whole : ℕ → ℕ → Window
whole w h = record { left = 0; top = 0; width = w; height = h }

-- a window as a rectangle
abbrev pub rect_of : Window → Rect
rect_of win = record { left = win.left; top = win.top; width = win.width; height = win.height }

-- ---- what the functions ask

-- settings and mappings from which a film's pixels can be rendered
pub record Mapped (w h : ℕ) (s : Settings) (m : List ℕ) : Type 0 where
  pub maps : Maps s m
  pub columns : Fits w s.across
  pub rows : Fits h s.down

-- a window inside the film, whose pixels' greys vs lie in Min to Max
pub record Shown (w h : ℕ) (s : Settings) (win : Window) (vs : List ℕ) : Type 0 where
  pub across : win.left + win.width ≤ w
  pub down : win.top + win.height ≤ h
  pub size : length vs ≡ win.height * win.width
  pub greys : all (within s.min s.max) vs ≡ true

-- what a pixel asks: places among the tiles, and a grey from Min to Max
pub record RenderPixelAsks (s : Settings) (m : List ℕ) (atcolumn atrow : Place) (v : ℕ) : Type 0 where
  pub maps : Maps s m
  pub column : Sound s.across 2048 atcolumn
  pub row : Sound s.down 2048 atrow
  pub grey : within s.min s.max v ≡ true

-- what a row asks: a place among the tiles, pixels inside the film from column `left` on, and greys from Min to Max
pub record RenderRowAsks (w : ℕ) (s : Settings) (m : List ℕ) (left : ℕ) (atrow : Place) (vs : List ℕ) : Type 0 where
  pub maps : Maps s m
  pub columns : Fits w s.across
  pub across : left + length vs ≤ w
  pub row : Sound s.down 2048 atrow
  pub greys : all (within s.min s.max) vs ≡ true

-- pixels from `at` on, of n: the first one's place, and where those between the same tiles end
pub record Sectioned (w grid left at n : ℕ) (r : Section) : Type 0 where
  pub column : r.column ≡ place_of w grid (left + at)
  pub start : at < r.end
  pub end : r.end ≤ n
  pub run : SameTiles w grid (left + at) r.column (r.end - at)
  pub size : r.end ≡ at + section_of w grid (left + at) (n - at)

-- what `sum_row` asks: as a row, of bins
pub record SumRowAsks (w : ℕ) (s : Settings) (m : List ℕ) (left : ℕ) (atrow : Place) (ks : List ℕ) : Type 0 where
  pub maps : Maps s m
  pub columns : Fits w s.across
  pub across : left + length ks ≤ w
  pub row : Sound s.down 2048 atrow
  pub bins : (i : ℕ) → i < length ks → get_or ks i 0 < bins_of s
