-- The value of one bin by one tile: what counting and clipping it asks, and what they leave.
-- Assumes nothing.
use Prim.Native.Nat.{ℕ, ◌+◌, ◌*◌, ◌≤◌, ◌<◌}
use mathlib.Core.List.{List, ◌++◌}
use mathlib.Core.Path.{◌≡◌, refl, sym, ap, ◌∙◌, subst}
use native.Mathlib.Omega.{arith}
use lib.ListN.{length, take, drop}
use Rattle.base_lists.specs.Lists.{onto, total}
use Rattle.base_lists.proofs.Fills.{drop_onto, length_onto}
use Rattle.tile_count.specs.declared.Rect.{Rect}
use Rattle.tile_count.specs.Tally.{greys_of, counts_of, CountRectAsks, Scale}
use Rattle.tile_count.proofs.Greys.{length_greys}
use Rattle.tile_map.specs.Tile.{tile_counts, tile_divides, Holds, MappingAsks}
use Rattle.tile_map.proofs.Mapped.{mapped_high}
use Rattle.tile_map.proofs.Tiles.{length_tile_counts, total_tile_counts, tile_part}
use Rattle.tile_value.specs.Value.{ValueAsks, ValueGiven}
use Rattle.tile_value.proofs.Tiles.{tile_value_asks, tile_value_lem, tile_leaves}
use Rattle.film_settings.specs.declared.Settings.{Settings}
use Rattle.film_settings.specs.Settings.{bins_of, Tiled}
use Rattle.pixel_render.proofs.Pixels.{tile_index}
use Rattle.film_tiles.specs.Tiles.{tile_of, TileRectAsks}
use Rattle.film_tiles.proofs.Tiles.{tile_area, tile_inside, tile_pixels_most, tiles_most, rect_asks}
use Rattle.film_tiles.proofs.Films.{tile_greys, rect_holds}
use Rattle.film_direct.specs.Direct.{corner_value, TileValueAsks, DirectReady, BehindBins}

-- the range and the bins of a film that is painted
pub paint_scale : {w h : ℕ} {pic : List ℕ} {s : Settings} {scratch : ℕ} → DirectReady w h pic s scratch → Scale s.min s.max (bins_of s)
paint_scale {w} {h} {pic} {s} asks =
    let tiled : Tiled w h s = asks.work.ready.tiled in
    record { order = omega (arith, tiled.min); most = tiled.max; some = tiled.bins; few = tiled.binsmost; reach = tiled.reach }

module _ {w h : ℕ} {pic : List ℕ} {s : Settings} {j i k scratch : ℕ} (asks : TileValueAsks w h pic s j i k scratch) where
  tiled : Tiled w h s
  tiled = asks.film.work.ready.tiled

  -- the tile's number
  pub corner_below : j * s.across + i < s.across * s.down
  corner_below = tile_index {across = s.across} {down = s.down} asks.row asks.column

  -- is small
  pub corner_small : j * s.across + i < 256
  corner_small = omega (arith, corner_below, tiles_most tiled)

  -- what its rectangle asks
  pub corner_rect : TileRectAsks w h s.across s.down (j * s.across + i)
  corner_rect = rect_asks tiled corner_below

  module _ {r : Rect} (p : r ≡ tile_of w h s (j * s.across + i)) where
    -- its pixels
    pub corner_pixels : r.width * r.height ≤ 4194304
    corner_pixels = rw (p, tile_area w h s.across s.down (j * s.across + i)) (tile_pixels_most tiled corner_below)

    module _ {b : ℕ} (q : b ≡ bins_of s) where
      -- what its mapping would ask, with room for it
      tile_asked : MappingAsks pic w r s.min s.max b s.clip scratch b
      tile_asked =
          rw (p, q)
          record {
            counts = record {
              inside = tile_inside tiled corner_below asks.film.work.ready.whole;
              scale = paint_scale asks.film;
              enough = asks.film.work.bins;
              greys = tile_greys asks.film corner_below;
            };
            holds = rect_holds asks.film (j * s.across + i);
            room = omega arith;
          }

      -- what counting it asks
      pub corner_count : CountRectAsks pic w r s.min s.max b scratch
      corner_count = tile_asked.counts

      module _ (d : List ℕ) {t : List ℕ} (e : t ≡ onto d (counts_of s.min s.max b (greys_of pic w r))) where
        -- the counts are in the front of the scratch
        pub corner_part : b ≡ length (take b t)
        corner_part = tile_part tile_asked d e

        -- what their value asks
        pub corner_value_asks : ValueAsks s.clip (r.width * r.height) s.min s.max k (take b t)
        corner_value_asks = tile_value_asks tile_asked d e (omega (arith, asks.bin))

        module _ {c : List ℕ} {v : ℕ} (g : ValueGiven s.edition s.clip (r.width * r.height) s.min s.max k (take b t) c v) where
          -- what it is
          pub corner_is : v ≡ corner_value w h pic s j i k
          unfolding corner_value
          corner_is = tile_value_lem tile_asked d e s.edition g ∙ rw (p, q) refl

          -- and what it leaves in the scratch
          pub corner_leaves : length d ≡ scratch → BehindBins s d (c ++ drop b t)
          corner_leaves l =
              record {
                behind = ap (drop (bins_of s)) (tile_leaves tile_asked d e s.edition g) ∙ drop_onto d own (bins_of s) counts;
                size = ap length (tile_leaves tile_asked d e s.edition g) ∙ length_onto d own (omega (arith, counts, asks.film.work.bins));
              }
            where
              own : List ℕ
              own = tile_counts s.min s.max b s.edition s.clip (greys_of pic w r)

              counts : length own ≡ bins_of s
              counts = length_tile_counts s.min s.max b s.edition s.clip (greys_of pic w r) ∙ q

  -- the value is at most Max
  pub corner_most : {v : ℕ} → v ≡ corner_value w h pic s j i k → v ≤ 4095
  unfolding corner_value
  corner_most {v} e =
      let r : Rect = tile_of w h s (j * s.across + i) in
      let vs : List ℕ = greys_of pic w r in
      let holds : Holds s.clip (length vs) (bins_of s) = subst (λ x. Holds s.clip x (bins_of s)) (sym (length_greys pic w r)) (rect_holds asks.film (j * s.across + i)) in
      let sum : total (tile_counts s.min s.max (bins_of s) s.edition s.clip vs) ≡ tile_divides s.min s.max (bins_of s) s.edition s.clip vs = total_tile_counts s.min s.max (bins_of s) s.edition s.clip vs (tile_greys asks.film corner_below) (omega (arith, tiled.bins)) holds in
      let top = mapped_high s.min s.max (tile_divides s.min s.max (bins_of s) s.edition s.clip vs) (tile_counts s.min s.max (bins_of s) s.edition s.clip vs) k (omega (arith, sum)) (omega (arith, tiled.min)) in
      omega (arith, e, top, tiled.max)
