-- Document 02, order 12: a plain engine, "for each pixel it counts the tiles it needs straight from the film, clips and sums, and keeps no mappings between pixels".
-- w and h are the film's width and height, pic its pixels, o the target and t the scratch as lent.
-- Assumes nothing.
use Rattle.std.specs.Prelude.{ℕ, ◌+◌, ◌*◌, ◌≤◌, ◌<◌, true, List, [], ◌∷◌, ◌++◌, ◌≡◌, length, drop}
use Rattle.base_lists.specs.Lists.{tab, joined, all}
use Rattle.base_rows.specs.Refuse.{Row, scratch_row, target_row, first, unless, accepted, refused}
use Rattle.base_range.specs.Scan.{within}
use Rattle.tile_count.specs.Tally.{greys_of, Scale}
use Rattle.tile_map.specs.Tile.{mapped_of, tile_counts, tile_divides}
use Rattle.film_settings.specs.declared.Settings.{Settings}
use Rattle.film_settings.specs.Settings.{bins_of, entries_of, outside_row, setting_rows}
use Rattle.film_tiles.specs.Tiles.{tile_of, foot_of, TilesReady}
use Rattle.film_prepare.specs.Prepare.{scratch_left, PaintOut, paint_leaves}
use Rattle.pixel_rule.specs.Rule.{rule_grey, shown_grey}

-- ---- the refusals

-- 12, 17 and 13: "17 if the target's length is not width x height, after 12"
unfoldable pub direct_work_rows : (w h : ℕ) (pic : List ℕ) (s : Settings) (scratch target : ℕ) → List Row
direct_work_rows w h pic s scratch target = scratch_row scratch (bins_of s) ∷ target_row w h target ∷ outside_row pic s ∷ []

-- "its refusals .. equal too, but for 11, which it never gives, and its own 17"
unfoldable pub direct_rows : (w h : ℕ) (pic : List ℕ) (s : Settings) (scratch target : ℕ) → List Row
direct_rows w h pic s scratch target = setting_rows w h (length pic) s ++ direct_work_rows w h pic s scratch target

-- ---- what it leaves

-- the film as it is shown, row by row
unfoldable pub shown_film : ℕ → ℕ → List ℕ → Settings → List ℕ
shown_film w h pic s = joined h (λ y. tab w (λ x. shown_grey w h pic s x y))

-- the film by the rule, row by row
unfoldable pub rule_row : (w h : ℕ) (pic : List ℕ) (s : Settings) (y : ℕ) → List ℕ
rule_row w h pic s y = tab w (λ x. rule_grey w h pic s x y)

-- "It writes to a separate picture", with "only lent scratch for one tile's counts, left as enhance leaves it"
unfoldable pub directed_of : (w h : ℕ) (pic : List ℕ) (s : Settings) (t : List ℕ) → PaintOut
directed_of w h pic s t =
    paint_leaves (accepted (foot_of w h s)) (shown_film w h pic s) (scratch_left s t (bins_of s))

-- a refusal leaves all memory as it was
unfoldable pub direct_of : (w h : ℕ) (pic : List ℕ) (s : Settings) (o t : List ℕ) → PaintOut
direct_of w h pic s o t =
    unless (first (direct_rows w h pic s (length t) (length o))) (λ n. paint_leaves (refused n) o t) (directed_of w h pic s t)

-- ---- what the functions ask and leave

-- the mapped value of bin k by the tile in row j and column i
unfoldable pub corner_value : (w h : ℕ) (pic : List ℕ) (s : Settings) (j i k : ℕ) → ℕ
corner_value w h pic s j i k =
    let r = tile_of w h s (j * s.across + i) in
    mapped_of s.min s.max
    (tile_divides s.min s.max (bins_of s) s.edition s.clip (greys_of pic w r))
    (tile_counts s.min s.max (bins_of s) s.edition s.clip (greys_of pic w r))
    k

-- what painting asks: what `map_tiles` asks, but no map buffer; the room is just enough for it
abbrev pub DirectReady : (w h : ℕ) (pic : List ℕ) (s : Settings) (scratch : ℕ) → Type 0
DirectReady w h pic s scratch = TilesReady w h pic s (entries_of s) scratch

-- what `tile_value` asks: that, of a tile and a bin
pub record TileValueAsks (w h : ℕ) (pic : List ℕ) (s : Settings) (j i k scratch : ℕ) : Type 0 where
  pub film : DirectReady w h pic s scratch
  pub row : j < s.down
  pub column : i < s.across
  pub bin : k < bins_of s

-- what `bin_at` asks
pub record DirectBinAsks (pic : List ℕ) (s : Settings) (at : ℕ) : Type 0 where
  pub scale : Scale s.min s.max (bins_of s)
  pub greys : all (within s.min s.max) pic ≡ true
  pub inside : at < length pic

-- what `pixel` asks: that, of a column and a row of the film
pub record DirectPixelAsks (w h : ℕ) (pic : List ℕ) (s : Settings) (x y scratch : ℕ) : Type 0 where
  pub film : DirectReady w h pic s scratch
  pub column : x < w
  pub row : y < h

-- what `paint_row` asks
pub record DirectRowAsks (w h : ℕ) (pic : List ℕ) (s : Settings) (y out scratch : ℕ) : Type 0 where
  pub film : DirectReady w h pic s scratch
  pub row : y < h
  pub room : out ≡ w

-- what `paint` asks
pub record DirectPaintAsks (w h : ℕ) (pic : List ℕ) (s : Settings) (target scratch : ℕ) : Type 0 where
  pub film : DirectReady w h pic s scratch
  pub room : target ≡ w * h

-- the scratch while it is worked in: what lies behind its first B entries is as it was
pub record BehindBins (s : Settings) (t₀ t : List ℕ) : Type 0 where
  pub behind : drop (bins_of s) t ≡ drop (bins_of s) t₀
  pub size : length t ≡ length t₀

-- what `pixel` leaves beside it: the rule's grey
pub record RuleGreyed (w h : ℕ) (pic : List ℕ) (s : Settings) (x y r : ℕ) : Type 0 where
  pub grey : r ≡ rule_grey w h pic s x y
  pub most : r ≤ 4095
