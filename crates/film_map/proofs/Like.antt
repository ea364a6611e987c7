-- What mapping looks at of what it is handed: bins 0 as 128, and of the counts only an entry for each bin of each tile.
-- Assumes nothing.
use Prim.Native.Nat.{ℕ, ◌*◌, ◌<◌}
use mathlib.Core.List.{List, ◌++◌}
use mathlib.Core.Path.{◌≡◌, refl, sym, ap, ap₂, ◌∙◌}
use native.Mathlib.Omega.{arith}
use lib.Dec.{eqb}
use lib.ListN.{length, take}
use lib.Seq.{take-take}
use Rattle.base_lists.specs.Lists.{total}
use Rattle.base_lists.proofs.Tabs.{every_cong}
use Rattle.base_lists.proofs.Fills.{joined_cong}
use Rattle.base_lists.proofs.Windows.{block_front}
use Rattle.tile_map.specs.Tile.{counts_mapping, spent_by}
use Rattle.film_settings.specs.declared.Settings.{Settings}
use Rattle.film_settings.specs.Settings.{bins_of, entries_of, kept_of, side_rows}
use Rattle.film_settings.proofs.Like.{bins_kept, grid_kept, range_kept, clip_kept, room_kept}
use Rattle.film_settings.proofs.Parts.{grey_parts}
use Rattle.film_settings.proofs.Records.{record_of_kept}
use Rattle.film_tiles.specs.Tiles.{pixels_in, spent_pair}
use Rattle.film_tiles.proofs.Like.{foot_kept}
use Rattle.film_count.specs.Counting.{counts_in}
use Rattle.film_count.proofs.Like.{counts_kept, counts_front}
use Rattle.film_map.specs.Counts.{adds_up_of, mappings_from, spents_from, tiling_rows, lent_rows, sum_rows, map_rows_of, map_done_of, map_of}

-- ---- mapping with bins 0 kept as 128

-- its rows
tiling_kept : (w h : ℕ) (s : Settings) → tiling_rows w h (kept_of s) ≡ tiling_rows w h s
unfolding tiling_rows
tiling_kept w h s =
    ap₂ (λ a b. side_rows w h ++ (a ++ b)) (grid_kept w h s) (grey_parts (kept_of s) ∙ ap₂ (λ a b. a ++ b) (range_kept s) (clip_kept s) ∙ sym (grey_parts s))

lent_kept : (s : Settings) (room scratch list size : ℕ) → lent_rows (kept_of s) room scratch list size ≡ lent_rows s room scratch list size
unfolding lent_rows
lent_kept s room scratch list size = rw (room_kept s room, counts_kept s size, bins_kept s) refl

sums_kept : (w h : ℕ) (s : Settings) (cs : List ℕ) → adds_up_of w h (kept_of s) cs ≡ adds_up_of w h s cs
unfolding adds_up_of
sums_kept w h s cs = every_cong (s.across * s.down) (λ k l. rw (bins_kept s) refl)

-- the mappings
from_kept : (w h : ℕ) (s : Settings) (cs : List ℕ) → mappings_from w h (kept_of s) cs ≡ mappings_from w h s cs
unfolding mappings_from
from_kept w h s cs = joined_cong (s.across * s.down) (λ k l. rw (bins_kept s) refl)

-- and what clipping takes
spents_kept : (w h : ℕ) (s : Settings) (cs : List ℕ) → spents_from w h (kept_of s) cs ≡ spents_from w h s cs
unfolding spents_from
spents_kept w h s cs = joined_cong (s.across * s.down) (λ k l. rw (bins_kept s) refl)

-- so it answers and leaves the same
pub map_kept : (film w h : ℕ) (s : Settings) (cs m t n : List ℕ) → map_of film w h (kept_of s) cs m t n ≡ map_of film w h s cs m t n
unfolding map_of map_done_of map_rows_of sum_rows
map_kept film w h s cs m t n =
    rw
    (tiling_kept w h s, lent_kept s (length m) (length t) (length n) (length cs), sums_kept w h s cs, from_kept w h s cs, spents_kept w h s cs, foot_kept w h s, record_of_kept film w h s, bins_kept s)
    refl

-- ---- mapping looks at the front of the counts

module _ (w h : ℕ) (s : Settings) (a b : List ℕ) (front : take (entries_of s) a ≡ take (entries_of s) b) where
  -- a tile's counts are the same
  same_counts : {k : ℕ} → k < s.across * s.down → counts_in s a k ≡ counts_in s b k
  same_counts l = block_front (bins_of s) (s.across * s.down) a b front l

  -- so they add up alike
  sums_front : adds_up_of w h s a ≡ adds_up_of w h s b
  unfolding adds_up_of
  sums_front = every_cong (s.across * s.down) (λ k l. ap (λ cs. eqb (total cs) (pixels_in w h s k)) (same_counts l))

  -- the rows are met alike
  rows_front : (room scratch list : ℕ) → map_rows_of w h s a room scratch list ≡ map_rows_of w h s b room scratch list
  unfolding map_rows_of lent_rows sum_rows
  rows_front room scratch list = rw (counts_front s a b front, sums_front) refl

  -- the mappings are the same
  mappings_front : mappings_from w h s a ≡ mappings_from w h s b
  unfolding mappings_from
  mappings_front = joined_cong (s.across * s.down) (λ k l. ap (counts_mapping s.min s.max s.edition s.clip (pixels_in w h s k)) (same_counts l))

  -- and what clipping takes
  spents_front : spents_from w h s a ≡ spents_from w h s b
  unfolding spents_from
  spents_front = joined_cong (s.across * s.down) (λ k l. ap (λ cs. spent_pair (spent_by s.edition s.clip (pixels_in w h s k) cs)) (same_counts l))

  -- what lies behind the front plays no part
  pub map_front : (film : ℕ) (m t n : List ℕ) → map_of film w h s a m t n ≡ map_of film w h s b m t n
  unfolding map_of map_done_of
  map_front film m t n = rw (rows_front (length m) (length t) (length n), mappings_front, spents_front) refl

-- of any counts, mapping looks at as many
pub map_taken : (film w h : ℕ) (s : Settings) (cs m t n : List ℕ) → map_of film w h s (take (entries_of s) cs) m t n ≡ map_of film w h s cs m t n
map_taken film w h s cs m t n = map_front w h s (take (entries_of s) cs) cs (take-take (entries_of s) (entries_of s) cs (omega arith)) film m t n
