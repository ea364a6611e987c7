-- What clipping a tile of a film takes at most: the excess is at most the tile's pixels, and the looks of its leftover walk at most B x (B + 1) / 2 times as many.
-- Assumes nothing.
use Prim.Native.Nat.{ℕ, ◌+◌, ◌*◌, ◌≤◌, ◌<◌}
use mathlib.Core.List.{List}
use mathlib.Core.Path.{◌≡◌, ap, ◌∙◌}
use native.Mathlib.Omega.{arith}
use Rattle.base_lists.specs.Lists.{total}
use Rattle.tile_clip.specs.declared.Spent.{Spent}
use Rattle.tile_count.specs.Tally.{greys_of, counts_of}
use Rattle.tile_count.proofs.Counts.{length_counts, total_counts}
use Rattle.tile_map.specs.Tile.{spent_by}
use Rattle.tile_map.proofs.Bounds.{spent_excess, spent_looks}
use Rattle.film_settings.specs.declared.Settings.{Settings}
use Rattle.film_settings.specs.Settings.{bins_of}
use Rattle.film_tiles.specs.Tiles.{tile_of, pixels_in, spent_in, TilesReady}
use Rattle.film_tiles.proofs.Tiles.{length_tile_greys}
use Rattle.film_tiles.proofs.Films.{tile_greys}
use Rattle.film_tiles.proofs.Spents.{spent_in_from}

module _ {w h : ℕ} {pic : List ℕ} {s : Settings} {room scratch : ℕ} (asks : TilesReady w h pic s room scratch) {k : ℕ} (l : k < s.across * s.down) where
  -- its raw counts
  abbrev counts : List ℕ
  counts = counts_of s.min s.max (bins_of s) (greys_of pic w (tile_of w h s k))

  -- they add up to its pixels
  counts_total : total counts ≡ pixels_in w h s k
  counts_total =
      total_counts s.min s.max (bins_of s) (greys_of pic w (tile_of w h s k)) (tile_greys asks l) (omega (arith, asks.work.ready.tiled.bins))
      ∙ length_tile_greys w h pic s k

  -- the excess is at most its pixels
  pub excess_few : (spent_in w h pic s k).excess ≤ pixels_in w h s k
  excess_few =
      let e : (spent_in w h pic s k).excess ≡ (spent_by s.edition s.clip (pixels_in w h s k) counts).excess = ap (λ (p : Spent). p.excess) (spent_in_from w h pic s k) in
      omega (arith, e, counts_total, spent_excess s.edition s.clip (pixels_in w h s k) counts)

  -- the looks, twice
  pub looks_few : 2 * (spent_in w h pic s k).looks ≤ pixels_in w h s k * (bins_of s * (bins_of s + 1))
  looks_few =
      let e : (spent_in w h pic s k).looks ≡ (spent_by s.edition s.clip (pixels_in w h s k) counts).looks = ap (λ (p : Spent). p.looks) (spent_in_from w h pic s k) in
      let most : 2 * (spent_by s.edition s.clip (pixels_in w h s k) counts).looks ≤ pixels_in w h s k * (bins_of s * (bins_of s + 1)) =
      rw (counts_total, length_counts s.min s.max (bins_of s) (greys_of pic w (tile_of w h s k))) at (spent_looks s.edition s.clip (pixels_in w h s k) counts) in
      omega (arith, e, most)
