-- Order 5, "a new factor without a new count": what counting answers, and what the lent counts hold at the end.
-- w and h are the film's width and height, pic its pixels, cs the counts as lent.
-- Assumes nothing.
use Rattle.std.specs.Prelude.{ℕ, ◌*◌, ◌≤◌, ◌<◌, ◌≡◌, true, List, [], ◌∷◌, ◌++◌, ltb, length, take, drop}
use Rattle.base_lists.specs.Lists.{joined, onto, all}
use Rattle.tile_limit.specs.declared.Clip.{Clip}
use Rattle.tile_limit.specs.declared.Edition.{Edition}
use Rattle.base_range.specs.Scan.{within}
use Rattle.tile_count.specs.Tally.{greys_of, counts_of}
use Rattle.base_rows.specs.Refuse.{Row, row, first, unless, Says, accepted, refused}
use Rattle.film_settings.specs.declared.Settings.{Settings}
use Rattle.film_settings.specs.Settings.{bins_of, entries_of, outside_row, size_rows, grid_rows, range_rows, Tiled}
use Rattle.film_tiles.specs.Tiles.{tile_of}

-- ---- counts

-- "each tile's raw counts": how many of tile k's pixels are in each bin
abbrev pub raw_counts : (w h : ℕ) (pic : List ℕ) (s : Settings) (k : ℕ) → List ℕ
raw_counts w h pic s k = counts_of s.min s.max (bins_of s) (greys_of pic w (tile_of w h s k))

-- those of all tiles, "in the mappings' order"
unfoldable pub countings : ℕ → ℕ → List ℕ → Settings → List ℕ
countings w h pic s = joined (s.across * s.down) (raw_counts w h pic s)

-- "a tile's counts" in that order: B entries for tile k
abbrev pub counts_in : Settings → List ℕ → ℕ → List ℕ
counts_in s cs k = take (bins_of s) (drop (k * bins_of s) cs)

-- ---- refusals

-- 33: "counts buffer shorter than tiles times bins"
unfoldable pub counts_rows : Settings → ℕ → List Row
counts_rows s size = row 33 (ltb size (entries_of s)) ∷ []

-- 13: "a pixel outside Min to Max"
unfoldable pub outside_rows : List ℕ → Settings → List Row
outside_rows pic s = outside_row pic s ∷ []

-- "1 to 9 with 31 after 9"
unfoldable pub picture_rows : ℕ → ℕ → ℕ → Settings → List Row
picture_rows w h size s = size_rows w h size ++ (grid_rows w h s ++ range_rows s)

-- "Counting gives 1 to 9 with 31 after 9, then 33, then 13"
unfoldable pub count_rows : (w h : ℕ) (pic : List ℕ) (s : Settings) (size : ℕ) → List Row
count_rows w h pic s size = picture_rows w h (length pic) s ++ (counts_rows s size ++ outside_rows pic s)

-- ---- counting

-- what counting leaves: its answer, which hands back no value or is a refusal, and the counts
pub record CountOut : Type 0 where
  pub answer : Says (Unit {0})
  pub counts : List ℕ

-- the answer and the counts at the end, as counting leaves them
abbrev pub count_leaves : Says (Unit {0}) → List ℕ → CountOut
count_leaves r cs = record { answer = r; counts = cs }

-- "counting, which fills only the front of a lent buffer with each tile's raw counts"
unfoldable pub count_done_of : (w h : ℕ) (pic : List ℕ) (s : Settings) (cs : List ℕ) → CountOut
count_done_of w h pic s cs = count_leaves (accepted tt) (onto cs (countings w h pic s))

-- a refusal leaves the counts as they were; where none applies, counting does its work
unfoldable pub count_of : (w h : ℕ) (pic : List ℕ) (s : Settings) (cs : List ℕ) → CountOut
count_of w h pic s cs = unless (first (count_rows w h pic s (length cs))) (λ n. count_leaves (refused n) cs) (count_done_of w h pic s cs)

-- ---- one counting for each factor

-- settings that "for each f in turn over the same counts" agree in all but the factor (and its edition, order 8), with bins 0 read as 128
pub record AlikeButClip (s s' : Settings) : Type 0 where
  pub across : s.across ≡ s'.across
  pub down : s.down ≡ s'.down
  pub bins : bins_of s ≡ bins_of s'
  pub min : s.min ≡ s'.min
  pub max : s.max ≡ s'.max

-- these settings with another edition and another factor
abbrev pub with_clipping : Settings → Edition → Clip → Settings
with_clipping s e f = record { across = s.across; down = s.down; bins = s.bins; min = s.min; max = s.max; clip = f; edition = e }

-- ---- what the functions below ask

-- what a look at the lengths that are lent asks: settings that are not refused
pub record LentAsks (s : Settings) : Type 0 where
  pub across : s.across ≤ 16
  pub down : s.down ≤ 16
  pub bins : bins_of s ≤ 4096

-- what counting knows once none of its rows applies
pub record CountReady (w h : ℕ) (pic : List ℕ) (s : Settings) (size : ℕ) : Type 0 where
  pub tiled : Tiled w h s
  pub whole : length pic ≡ w * h
  pub fitting : entries_of s ≤ size
  pub greys : all (within s.min s.max) pic ≡ true

-- the same of one of the tiles
pub record CountTileAsks (w h : ℕ) (pic : List ℕ) (s : Settings) (k size : ℕ) : Type 0 where
  pub film : CountReady w h pic s size
  pub tile : k < s.across * s.down
