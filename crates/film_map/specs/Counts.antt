-- Order 5, "a new factor without a new count": what mapping answers, and what each lent buffer holds at the end.
-- w and h are the film's width and height, cs the counts, m the map buffer, t the scratch and n order 7's list as lent.
-- Assumes nothing.
use Rattle.std.specs.Prelude.{ℕ, ◌+◌, ◌*◌, ◌≤◌, ◌<◌, ◌≡◌, Bool, true, false, not, List, [], ◌∷◌, ◌++◌, eqb, length}
use Rattle.base_lists.specs.Lists.{joined, every, total}
use Rattle.base_rows.specs.Refuse.{Row, row, scratch_row, first, unless, accepted, refused}
use Rattle.tile_clip.specs.declared.Spent.{Spent}
use Rattle.tile_map.specs.Tile.{counts_mapping, spent_by}
use Rattle.film_settings.specs.declared.Settings.{Settings}
use Rattle.film_settings.specs.Settings.{bins_of, entries_of, record_of, clip_bad_of, side_rows, grid_rows, grey_rows, room_rows, Tiled}
use Rattle.film_tiles.specs.Tiles.{pixels_in, foot_of, spent_pair, spent_entries, list_row, Placed, AllPlaced}
use Rattle.film_prepare.specs.Prepare.{front_left, scratch_left, PrepareOut, prepare_leaves}
use Rattle.film_count.specs.Counting.{counts_in, counts_rows}

-- ---- mappings from counts

-- each tile's counts "add up to its pixels"
unfoldable pub adds_up_of : ℕ → ℕ → Settings → List ℕ → Bool
adds_up_of w h s cs = every (s.across * s.down) (λ k. eqb (total (counts_in s cs k)) (pixels_in w h s k))

-- the mapping of tile k "from those counts"
abbrev pub mapping_from : (w h : ℕ) (s : Settings) (cs : List ℕ) (k : ℕ) → List ℕ
mapping_from w h s cs k = counts_mapping s.min s.max s.edition s.clip (pixels_in w h s k) (counts_in s cs k)

-- "mapping, which makes the mappings .. from those counts"
unfoldable pub mappings_from : ℕ → ℕ → Settings → List ℕ → List ℕ
mappings_from w h s cs = joined (s.across * s.down) (mapping_from w h s cs)

-- order 7, "E, and the number of looks" of tile k from those counts
abbrev pub spent_from : (w h : ℕ) (s : Settings) (cs : List ℕ) (k : ℕ) → Spent
spent_from w h s cs k = spent_by s.edition s.clip (pixels_in w h s k) (counts_in s cs k)

-- the list "in which each tile in row order has two entries"
unfoldable pub spents_from : ℕ → ℕ → Settings → List ℕ → List ℕ
spents_from w h s cs = joined (s.across * s.down) (λ k. spent_pair (spent_from w h s cs k))

-- ---- refusals

-- 1 and 3 to 10, "with 31 after 9": mapping is handed no picture
unfoldable pub tiling_rows : ℕ → ℕ → Settings → List Row
tiling_rows w h s = side_rows w h ++ (grid_rows w h s ++ grey_rows s)

-- 11, 12, 32 and 33: what is lent is too short; 32 "straight after 12"
unfoldable pub lent_rows : (s : Settings) (room scratch list size : ℕ) → List Row
lent_rows s room scratch list size = room_rows s room ++ (scratch_row scratch (bins_of s) ∷ list_row s list ∷ counts_rows s size)

-- 34: "a tile's counts don't add up to its pixels"
unfoldable pub sum_rows : ℕ → ℕ → Settings → List ℕ → List Row
sum_rows w h s cs = row 34 (not (adds_up_of w h s cs)) ∷ []

-- "mapping gives 1, 3 to 12 with 31 after 9, then 33, then 34", 32 behind 12
unfoldable pub map_rows_of : (w h : ℕ) (s : Settings) (cs : List ℕ) (room scratch list : ℕ) → List Row
map_rows_of w h s cs room scratch list = tiling_rows w h s ++ (lent_rows s room scratch list (length cs) ++ sum_rows w h s cs)

-- ---- mapping

-- "mapping, which makes the mappings and footer from those counts": "Mapping leaves map buffer and scratch as prepare does, at factor 1.0 too"
unfoldable pub map_done_of : (film w h : ℕ) (s : Settings) (cs m t n : List ℕ) → PrepareOut
map_done_of film w h s cs m t n =
    record {
      answer = accepted (record_of film w h s, foot_of w h s);
      map = front_left s m (mappings_from w h s cs);
      scratch = scratch_left s t (bins_of s);
      list = front_left s n (spents_from w h s cs);
    }

-- a refusal leaves all memory as it was; where none applies, mapping does its work
unfoldable pub map_of : (film w h : ℕ) (s : Settings) (cs m t n : List ℕ) → PrepareOut
map_of film w h s cs m t n =
    unless (first (map_rows_of w h s cs (length m) (length t) (length n))) (λ k. prepare_leaves (refused k) m t n) (map_done_of film w h s cs m t n)

-- ---- what the functions below ask

-- what a look at the sums asks: a film's tiles, and counts for each
pub record AllSumsAsks (w h : ℕ) (s : Settings) (size : ℕ) : Type 0 where
  pub tiled : Tiled w h s
  pub fitting : entries_of s ≤ size

-- the same of one of the tiles
pub record TileSumAsks (w h : ℕ) (s : Settings) (k size : ℕ) : Type 0 where
  pub film : AllSumsAsks w h s size
  pub tile : k < s.across * s.down

-- what mapping a tile knows once none of the rows applies
pub record MapReady (w h : ℕ) (s : Settings) (cs : List ℕ) (room scratch : ℕ) : Type 0 where
  pub tiled : Tiled w h s
  pub fair : clip_bad_of s.clip ≡ false
  pub fitting : entries_of s ≤ room
  pub bins : bins_of s ≤ scratch
  pub long : entries_of s ≤ length cs
  pub sums : adds_up_of w h s cs ≡ true

-- what `map_all` asks: that, and a list with two entries for each tile
pub record MapAllAsks (w h : ℕ) (s : Settings) (cs : List ℕ) (room scratch list : ℕ) : Type 0 where
  pub film : MapReady w h s cs room scratch
  pub pairs : spent_entries s ≤ list

-- the same of one of the tiles
pub record MapOneAsks (w h : ℕ) (s : Settings) (cs : List ℕ) (k room scratch : ℕ) : Type 0 where
  pub film : MapReady w h s cs room scratch
  pub tile : k < s.across * s.down

-- what copying a tile's counts asks: block k of b entries, and room for it
pub record CopyTileAsks (b k size scratch : ℕ) : Type 0 where
  pub inside : k * b + b ≤ size
  pub small : k * b + b ≤ 1048576
  pub room : b ≤ scratch

-- what `map_one` leaves and answers
pub record OneMapped (w h : ℕ) (s : Settings) (cs : List ℕ) (k : ℕ) (m₀ m t₀ t : List ℕ) (took : Spent) : Type 0 where
  pub placed : Placed s k (mapping_from w h s cs k) m₀ m t₀ t
  pub spent : took ≡ spent_from w h s cs k

-- what `map_all` leaves
abbrev pub AllMapped : (w h : ℕ) (s : Settings) (cs : List ℕ) → List ℕ → List ℕ → List ℕ → List ℕ → List ℕ → List ℕ → Type 0
AllMapped w h s cs = AllPlaced s (mappings_from w h s cs) (spents_from w h s cs)
