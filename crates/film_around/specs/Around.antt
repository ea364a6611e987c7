-- Document 02, order 13: a window around each pixel, "in which every pixel has its own region".
-- w and h are the film's width and height, pic its pixels, side the region's, o the target and t the scratch as lent.
-- Assumes nothing.
use Rattle.std.specs.Prelude.{ℕ, ◌+◌, ◌-◌, ◌*◌, ◌%◌, ◌≤◌, ◌<◌, true, false, cond, List, [], ◌∷◌, ◌++◌, map, ◌≡◌, ltb, eqb, length, take, drop, get_or, Option, IfSome}
use Rattle.base_lists.specs.Lists.{tab, joined, times, all}
use Rattle.base_rows.specs.Refuse.{Row, row, scratch_row, target_row, first, unless, accepted, refused}
use Rattle.base_range.specs.Scan.{within}
use Rattle.tile_bin.specs.Binning.{bin_of, factor_of}
use Rattle.tile_count.specs.Tally.{greys_of, Scale}
use Rattle.tile_map.specs.Tile.{clipped_by, divided_by, mapped_of, tile_mapping}
use Rattle.tile_value.specs.Value.{ValueAsks}
use Rattle.pixel_render.specs.Render.{rect_of}
use Rattle.film_settings.specs.declared.Settings.{Settings}
use Rattle.film_settings.specs.declared.Footer.{Footer}
use Rattle.film_settings.specs.declared.Window.{Window}
use Rattle.film_settings.specs.Settings.{bins_of, clip_bad_of, clip_one_of, outside_row, size_rows, grey_rows}
use Rattle.film_tiles.specs.Tiles.{footer_of}
use Rattle.film_prepare.specs.Prepare.{scratch_left, PaintOut, paint_leaves}
use Rattle.tile_slide.specs.Slide.{first_of, end_of, region_rect, RegionAsks, SlideAsks}

-- ---- the refusals

-- "39, side even or not 3 to 63"
unfoldable pub region_rows : ℕ → List Row
region_rows side = row 39 (eqb (side % 2) 0) ∷ row 39 (ltb side 3) ∷ row 39 (ltb 63 side) ∷ []

-- "Scratch is twice the bins (12)"; "17 for the target as in order 12", straight after 12; 13
unfoldable pub around_work_rows : (w h : ℕ) (pic : List ℕ) (s : Settings) (scratch target : ℕ) → List Row
around_work_rows w h pic s scratch target = scratch_row scratch (2 * bins_of s) ∷ target_row w h target ∷ outside_row pic s ∷ []

-- 39 stands "in the place of 3 to 6", and "11 is never given"
unfoldable pub around_rows : (w h : ℕ) (pic : List ℕ) (side : ℕ) (s : Settings) (scratch target : ℕ) → List Row
around_rows w h pic side s scratch target = size_rows w h (length pic) ++ (region_rows side ++ (grey_rows s ++ around_work_rows w h pic s scratch target))

-- ---- the film

-- N, "the pixels that are left" of the region around the pixel in column x and row y
unfoldable pub region_pixels : (w h side x y : ℕ) → ℕ
region_pixels w h side x y = (region_rect w h side x y).width * (region_rect w h side x y).height

-- the mapping of that region: "then bins, limit, clipping and mapping as today"
unfoldable pub region_mapping : (w h : ℕ) (pic : List ℕ) (side : ℕ) (s : Settings) (x y : ℕ) → List ℕ
region_mapping w h pic side s x y = tile_mapping s.min s.max (bins_of s) s.edition s.clip (greys_of pic w (region_rect w h side x y))

-- "The grey is the mapping of the pixel's own bin"
unfoldable pub around_grey : (w h : ℕ) (pic : List ℕ) (side : ℕ) (s : Settings) (x y : ℕ) → ℕ
around_grey w h pic side s x y = get_or (region_mapping w h pic side s x y) (bin_of s.min s.max (bins_of s) (get_or pic (y * w + x) 0)) 0

-- a row of such greys
unfoldable pub around_row : (w h : ℕ) (pic : List ℕ) (side : ℕ) (s : Settings) (y : ℕ) → List ℕ
around_row w h pic side s y = tab w (λ x. around_grey w h pic side s x y)

-- and the film, row by row
unfoldable pub around_film : (w h : ℕ) (pic : List ℕ) (side : ℕ) (s : Settings) → List ℕ
around_film w h pic side s = joined h (around_row w h pic side s)

-- "The footer shows the region of column 0, row 0"
unfoldable pub around_foot : ℕ → ℕ → ℕ → Settings → Footer
around_foot w h side s = footer_of s.clip (region_pixels w h side 0 0) (bins_of s)

-- ---- what the call leaves

-- "Scratch is .. zero afterwards; factor 1.0 copies the film and leaves scratch"
unfoldable pub arounded_of : (w h : ℕ) (pic : List ℕ) (side : ℕ) (s : Settings) (t : List ℕ) → PaintOut
arounded_of w h pic side s t =
    paint_leaves
    (accepted (around_foot w h side s))
    (cond (clip_one_of s.clip) pic (around_film w h pic side s))
    (scratch_left s t (2 * bins_of s))

-- a refusal leaves all memory as it was
unfoldable pub around_of : (w h : ℕ) (pic : List ℕ) (side : ℕ) (s : Settings) (o t : List ℕ) → PaintOut
around_of w h pic side s o t =
    unless (first (around_rows w h pic side s (length t) (length o))) (λ n. paint_leaves (refused n) o t) (arounded_of w h pic side s t)

-- ---- what the functions ask and leave

-- what the work knows once none of the rows applies
pub record AroundReady (w h : ℕ) (pic : List ℕ) (side : ℕ) (s : Settings) : Type 0 where
  pub wide : 0 < w
  pub widest : w ≤ 4096
  pub high : 0 < h
  pub highest : h ≤ 4096
  pub few : side ≤ 63
  pub scale : Scale s.min s.max (bins_of s)
  pub whole : length pic ≡ w * h
  pub fair : clip_bad_of s.clip ≡ false
  pub greys : all (within s.min s.max) pic ≡ true

-- the counts of the region around the pixel in column x and row y stand in the front of the scratch
abbrev pub RegionCounted : (w h : ℕ) (pic : List ℕ) (side : ℕ) (s : Settings) (x y b : ℕ) (t : List ℕ) → Type 0
RegionCounted w h pic side s x y b t =
    (k : ℕ) → k < b → get_or t k 0 ≡ times k (map (bin_of s.min s.max b) (greys_of pic w (region_rect w h side x y)))

-- what the bin of the grey at `at` asks
pub record AroundBinAsks (pic : List ℕ) (s : Settings) (at b factor : ℕ) : Type 0 where
  pub scale : Scale s.min s.max b
  pub by : factor ≡ factor_of s.min s.max b
  pub greys : all (within s.min s.max) pic ≡ true
  pub inside : at < length pic

-- what a pixel asks: a film, a column and a row of it, the bins and their factor, scratch for twice the bins, and the region's counts in front
pub record AroundPixelAsks (w h : ℕ) (pic : List ℕ) (side : ℕ) (s : Settings) (x y b factor : ℕ) (t : List ℕ) : Type 0 where
  pub film : AroundReady w h pic side s
  pub column : x < w
  pub row : y < h
  pub bins : b ≡ bins_of s
  pub by : factor ≡ factor_of s.min s.max b
  pub room : b + b ≤ length t
  pub front : RegionCounted w h pic side s x y b t

-- a pixel's grey
pub record AroundGreyed (w h : ℕ) (pic : List ℕ) (side : ℕ) (s : Settings) (x y r : ℕ) : Type 0 where
  pub grey : r ≡ around_grey w h pic side s x y
  pub most : r ≤ 4095

-- what the scratch holds while a row is worked on: the counts of the region around column x in front, and behind twice the bins what it held
pub record RegionHeld (w h : ℕ) (pic : List ℕ) (side : ℕ) (s : Settings) (x y b : ℕ) (t₀ t : List ℕ) : Type 0 where
  pub front : RegionCounted w h pic side s x y b t
  pub behind : drop (b + b) t ≡ drop (b + b) t₀
  pub size : length t ≡ length t₀

-- what the regions around some pixels of a row ask
pub record SpanAsks (size w h side x y : ℕ) : Type 0 where
  pub region : RegionAsks w h side x y
  pub whole : size ≡ w * h

-- a window of the film, which has the regions around 64 pixels of row y from column a on, and the one behind them
pub record PartAround (w h side a y : ℕ) (win : Window) : Type 0 where
  pub left : win.left ≡ first_of side a
  pub top : win.top ≡ first_of side y
  pub right : win.left + win.width ≡ end_of side w (a + 64)
  pub bottom : win.top + win.height ≡ end_of side h y

-- the pixels of a window that was copied, which stand in front
abbrev pub front_of : Window → List ℕ → List ℕ
front_of win part = take (win.height * win.width) part

-- a window that was copied, and has the regions around column x and the one behind it, for the columns from each 64th on
pub record KeptPart (w h : ℕ) (pic : List ℕ) (side x y : ℕ) (win : Window) (part : List ℕ) : Type 0 where
  pub from : ℕ
  pub turn : from % 64 ≡ 0
  pub before : from ≤ x
  pub behind : x < from + 64
  pub place : PartAround w h side from y win
  pub room : win.height * win.width ≤ length part
  pub held : front_of win part ≡ greys_of pic w (rect_of win)

-- what the next column asks: room, and the window of the column before it, where it begins no new one
pub record KeepAsks (w h : ℕ) (pic : List ℕ) (side x y : ℕ) (win : Window) (part : List ℕ) : Type 0 where
  pub asks : SpanAsks (length pic) w h side x y
  pub room : 8192 ≤ length part
  pub kept : 0 < x % 64 → KeptPart w h pic side x y win part

-- what moving right by a copied window asks
pub record SlideInAsks (part : List ℕ) (win : Window) (side : ℕ) (s : Settings) (x y b factor : ℕ) (t : List ℕ) : Type 0 where
  pub left : win.left ≤ x
  pub top : win.top ≤ y
  pub room : win.height * win.width ≤ length part
  pub asks : SlideAsks (front_of win part) win.width win.height side (x - win.left) (y - win.top) s.min s.max b factor t

-- what the value of a bin asks of the counts in the front of the scratch
pub record FoundAsks (s : Settings) (n k b : ℕ) (t : List ℕ) : Type 0 where
  pub asks : ValueAsks s.clip n s.min s.max k (take b t)
  pub room : b + b ≤ length t

-- and leaves: the counts, what lies behind twice the bins, and the value, if it is known
pub record FoundIn (s : Settings) (n k b : ℕ) (t₀ t : List ℕ) (f : Option ℕ) : Type 0 where
  pub front : (i : ℕ) → i < b → get_or t i 0 ≡ get_or t₀ i 0
  pub behind : drop (b + b) t ≡ drop (b + b) t₀
  pub size : length t ≡ length t₀
  pub value : IfSome f (λ v. v ≡ mapped_of s.min s.max (divided_by s.edition s.clip n (take b t₀)) (clipped_by s.edition s.clip n (take b t₀)) k)

-- what the first region of a row asks
pub record AroundStartAsks (w h : ℕ) (pic : List ℕ) (side : ℕ) (s : Settings) (y b scratch : ℕ) : Type 0 where
  pub film : AroundReady w h pic side s
  pub row : y < h
  pub bins : b ≡ bins_of s
  pub room : b + b ≤ scratch

-- what the pixels of a row ask: the counts of the first one's region, and room for a window
pub record PaintPixelsAsks (w h : ℕ) (pic : List ℕ) (side : ℕ) (s : Settings) (y b factor part out : ℕ) (t : List ℕ) : Type 0 where
  pub first : AroundPixelAsks w h pic side s 0 y b factor t
  pub copied : 8192 ≤ part
  pub row : out ≡ w

-- what a row asks
pub record AroundRowAsks (w h : ℕ) (pic : List ℕ) (side : ℕ) (s : Settings) (y out scratch : ℕ) : Type 0 where
  pub film : AroundReady w h pic side s
  pub row : y < h
  pub room : out ≡ w
  pub enough : bins_of s + bins_of s ≤ scratch

-- and the film
pub record AroundPaintAsks (w h : ℕ) (pic : List ℕ) (side : ℕ) (s : Settings) (target scratch : ℕ) : Type 0 where
  pub film : AroundReady w h pic side s
  pub room : target ≡ w * h
  pub enough : bins_of s + bins_of s ≤ scratch

-- the scratch between rows: what lies behind twice the bins is as it was
pub record BehindTwiceBins (s : Settings) (t₀ t : List ℕ) : Type 0 where
  pub behind : drop (bins_of s + bins_of s) t ≡ drop (bins_of s + bins_of s) t₀
  pub size : length t ≡ length t₀
