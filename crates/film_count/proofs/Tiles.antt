-- One tile: where its counts lie, what counting it asks, and what it leaves; and each tile's counts among those of all.
-- Assumes nothing.
use Prim.Native.Nat.{ℕ, ◌+◌, ◌-◌, ◌*◌, ◌≤◌, ◌<◌}
use mathlib.Core.Bool.{true}
use mathlib.Core.List.{List}
use mathlib.Core.Path.{◌≡◌, refl, ◌∙◌}
use native.Mathlib.Omega.{arith}
use lib.ListN.{length}
use borrow.Author.Rules.{rules}
use borrow.Rule.Slice.PartMut.{put_mid}
use Rattle.base_lists.specs.Lists.{total, all, onto, over}
use Rattle.base_lists.proofs.Fills.{length_joined}
use Rattle.base_lists.proofs.Blocks.{block_fits}
use Rattle.base_lists.proofs.Maps.{over_part}
use Rattle.base_lists.proofs.Windows.{block, length_block, block_joined}
use Rattle.base_range.specs.Scan.{within}
use Rattle.tile_count.specs.declared.Rect.{Rect}
use Rattle.tile_count.specs.Tally.{greys_of, counts_of, CountRectAsks, Scale}
use Rattle.tile_count.proofs.Greys.{greys_all}
use Rattle.tile_count.proofs.Counts.{length_counts, total_counts}
use Rattle.film_settings.specs.declared.Settings.{Settings}
use Rattle.film_settings.specs.Settings.{bins_of, entries_of, Tiled}
use Rattle.film_settings.proofs.Ready.{entries_small}
use Rattle.film_tiles.specs.Tiles.{tile_of, pixels_in}
use Rattle.film_tiles.proofs.Tiles.{length_tile_greys, tile_inside}
use Rattle.film_count.specs.Counting.{raw_counts, countings, counts_in, CountTileAsks}

-- ---- where block k lies

-- within a list that has an entry for each bin of each tile
pub block_room : (s : Settings) {k room b : ℕ} → entries_of s ≤ room → k < s.across * s.down → b ≡ bins_of s → k * b + b ≤ room
block_room s fits l q = rw q (block_fits (bins_of s) (s.across * s.down) l fits)

-- and within 16 x 16 tiles of 4096 bins
pub block_small : {w h : ℕ} {s : Settings} {k b : ℕ} → Tiled w h s → k < s.across * s.down → b ≡ bins_of s → k * b + b ≤ 1048576
block_small {s = s} tiled l q = block_room s (entries_small s.across s.down (bins_of s) tiled.acrossmost tiled.downmost tiled.binsmost) l q

-- ---- counting

-- Min, Max and the bins of a film's tiles are as counting asks them, field by field
scaled : {w h : ℕ} {s : Settings} → Tiled w h s → Scale s.min s.max (bins_of s)
scaled known = search rules

-- there is a count for each bin
pub length_raw : (w h : ℕ) (pic : List ℕ) (s : Settings) (k : ℕ) → length (raw_counts w h pic s k) ≡ bins_of s
length_raw w h pic s k = length_counts s.min s.max (bins_of s) (greys_of pic w (tile_of w h s k))

-- a tile's greys lie in Min to Max
pub tile_greys : {w h : ℕ} {pic : List ℕ} {s : Settings} {k size : ℕ} → CountTileAsks w h pic s k size → all (within s.min s.max) (greys_of pic w (tile_of w h s k)) ≡ true
tile_greys {w} {h} {pic} {s} {k} asks =
    let inside = tile_inside asks.film.tiled asks.tile asks.film.whole in
    greys_all (within s.min s.max) pic w (tile_of w h s k) inside.across inside.down asks.film.greys

-- so its counts add up to its pixels
pub raw_sum : {w h : ℕ} {pic : List ℕ} {s : Settings} {k size : ℕ} → CountTileAsks w h pic s k size → total (raw_counts w h pic s k) ≡ pixels_in w h s k
raw_sum {w} {h} {pic} {s} {k} asks =
    total_counts s.min s.max (bins_of s) (greys_of pic w (tile_of w h s k)) (tile_greys asks) (omega (arith, asks.film.tiled.bins)) ∙ length_tile_greys w h pic s k

module _ {w h : ℕ} {pic : List ℕ} {s : Settings} {k : ℕ} (cs : List ℕ) (asks : CountTileAsks w h pic s k (length cs)) {r : Rect} {b : ℕ} (p : r ≡ tile_of w h s k) (q : b ≡ bins_of s) where
  -- what counting tile k asks, its rectangle and the bins as they were worked out
  pub count_asks : CountRectAsks pic w r s.min s.max b (length (block cs k b))
  count_asks =
      let tiled : Tiled w h s = asks.film.tiled in
      rw (p, length_block cs k b (block_room s asks.film.fitting asks.tile q), q)
      record {
        inside = tile_inside tiled asks.tile asks.film.whole;
        scale = scaled tiled;
        enough = omega arith;
        greys = tile_greys asks;
      }

  -- what it leaves
  pub count_done : {ys : List ℕ} → ys ≡ onto (block cs k b) (counts_of s.min s.max b (greys_of pic w r))
      → put_mid (k * b) (k * b + b - k * b) cs ys ≡ over cs (k * bins_of s) (raw_counts w h pic s k)
  count_done e =
      over_part cs (counts_of s.min s.max b (greys_of pic w r)) (k * b) b (block_room s asks.film.fitting asks.tile q) (length_counts _ _ b _) e ∙ rw (p, q) refl

-- ---- the counts of all tiles

-- an entry for each bin of each tile
pub length_countings : (w h : ℕ) (pic : List ℕ) (s : Settings) → length (countings w h pic s) ≡ entries_of s
unfolding countings
length_countings w h pic s = length_joined (bins_of s) (s.across * s.down) (raw_counts w h pic s) (λ i l. length_raw w h pic s i)

-- tile k's are its own
pub own_counts : (w h : ℕ) (pic : List ℕ) (s : Settings) (cs : List ℕ) {k : ℕ} → k < s.across * s.down → counts_in s (onto cs (countings w h pic s)) k ≡ raw_counts w h pic s k
unfolding countings
own_counts w h pic s cs l = block_joined (bins_of s) (s.across * s.down) (raw_counts w h pic s) cs (λ i q. length_raw w h pic s i) l
