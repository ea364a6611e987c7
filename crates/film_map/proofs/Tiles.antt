-- One tile: its counts, what adding them up and mapping them asks, and what mapping them leaves.
-- Assumes nothing.
use Prim.Native.Nat.{ℕ, ◌+◌, ◌-◌, ◌*◌, ◌≤◌}
use mathlib.Core.Bool.{Bool}
use mathlib.Core.List.{List, ◌++◌}
use mathlib.Core.Path.{◌≡◌, refl, sym, ap, ap₂, ◌∙◌, subst}
use native.Mathlib.Omega.{arith}
use lib.Dec.{eqb}
use lib.ListN.{length, take, drop}
use lib.Seq.{drop_at, length_front}
use borrow.Author.Tests.{eqb-true}
use borrow.Rule.Slice.PartMut.{put_mid}
use Rattle.base_lists.specs.Lists.{total, onto}
use Rattle.base_lists.proofs.Tabs.{every_at}
use Rattle.base_lists.proofs.Fills.{take_onto, drop_onto, length_onto}
use Rattle.base_lists.proofs.Maps.{over_part}
use Rattle.base_lists.proofs.Windows.{block, length_block, block_cut}
use Rattle.tile_clip.specs.declared.Spent.{Spent}
use Rattle.tile_map.specs.Tile.{clipped_by, counts_mapping, spent_by, Holds, FromCountsAsks}
use Rattle.tile_map.proofs.Tiles.{length_clipped_by, length_counts_mapping}
use Rattle.film_settings.specs.declared.Settings.{Settings}
use Rattle.film_settings.specs.Settings.{bins_of, Tiled}
use Rattle.film_tiles.specs.Tiles.{pixels_in}
use Rattle.film_tiles.proofs.Tiles.{tile_pixels_some, tile_pixels_most}
use Rattle.film_tiles.proofs.Films.{clip_holds}
use Rattle.film_count.specs.Counting.{counts_in}
use Rattle.film_count.proofs.Tiles.{block_room, block_small}
use Rattle.film_map.specs.Counts.{adds_up_of, mapping_from, TileSumAsks, MapReady, MapOneAsks, CopyTileAsks, OneMapped}

-- a tile's counts, as the code cuts them out
pub counts_cut : (s : Settings) (cs : List ℕ) (k : ℕ) {b : ℕ} → b ≡ bins_of s → block cs k b ≡ counts_in s cs k
counts_cut s cs k {b} q = block_cut cs k b ∙ ap (λ n. take n (drop (k * n) cs)) q

-- ---- adding up

module _ {w h : ℕ} {s : Settings} {k : ℕ} (cs : List ℕ) (asks : TileSumAsks w h s k (length cs)) {b : ℕ} (q : b ≡ bins_of s) where
  -- a tile has at most 4096 counts
  pub sum_asks : length (block cs k b) ≤ 4096
  sum_asks = omega (arith, length_block cs k b (block_room s asks.film.fitting asks.tile q), asks.film.tiled.binsmost)

-- what is found of them
pub sum_found : (w h : ℕ) (s : Settings) (cs : List ℕ) (k : ℕ) {b n : ℕ} {r : Bool} → b ≡ bins_of s → n ≡ pixels_in w h s k → r ≡ eqb (total (block cs k b)) n
    → r ≡ eqb (total (counts_in s cs k)) (pixels_in w h s k)
sum_found w h s cs k q p e = e ∙ ap₂ (λ x y. eqb (total x) y) (counts_cut s cs k q) p

-- ---- mapping

-- a tile's counts, where there are some for each
pub length_counts_in : {w h : ℕ} {s : Settings} {cs : List ℕ} {k room scratch : ℕ} → MapOneAsks w h s cs k room scratch → length (counts_in s cs k) ≡ bins_of s
length_counts_in {s = s} {cs} {k} asks = ap length (sym (counts_cut s cs k refl)) ∙ length_block cs k (bins_of s) (block_room s asks.film.long asks.tile refl)

-- they add up to its pixels
pub tile_sum : {w h : ℕ} {s : Settings} {cs : List ℕ} {k room scratch : ℕ} → MapOneAsks w h s cs k room scratch → total (counts_in s cs k) ≡ pixels_in w h s k
unfolding adds_up_of
tile_sum {w} {h} {s} {cs} {k} asks = eqb-true (total (counts_in s cs k)) (pixels_in w h s k) (every_at (s.across * s.down) _ asks.film.sums k asks.tile)

-- and the mapping has a value for each bin
pub length_mapping_from : {w h : ℕ} {s : Settings} {cs : List ℕ} {k room scratch : ℕ} → MapOneAsks w h s cs k room scratch → length (mapping_from w h s cs k) ≡ bins_of s
length_mapping_from {w} {h} {s} {cs} {k} asks = length_counts_mapping s.min s.max s.edition s.clip (pixels_in w h s k) (counts_in s cs k) ∙ length_counts_in asks

module _ {w h : ℕ} {s : Settings} {cs : List ℕ} {k : ℕ} (m t : List ℕ) (asks : MapOneAsks w h s cs k (length m) (length t)) {b : ℕ} (q : b ≡ bins_of s) where
  -- the copy of the counts fits into the scratch
  pub copy_asks : CopyTileAsks b k (length cs) (length t)
  copy_asks =
      record {
        inside = block_room s asks.film.long asks.tile q;
        small = block_small asks.film.tiled asks.tile q;
        room = omega (arith, asks.film.bins);
      }

  module _ {u : List ℕ} (e : u ≡ onto t (take b (drop (k * b) cs))) where
    -- the front of the scratch holds the tile's counts
    held : u ≡ onto t (counts_in s cs k)
    held = e ∙ ap (λ n. onto t (take n (drop (k * n) cs))) q

    long : length (counts_in s cs k) ≡ b
    long = length_counts_in asks ∙ sym q

    copied : take b u ≡ counts_in s cs k
    copied = ap (take b) held ∙ take_onto t (counts_in s cs k) b long

    size : length (take b u) ≡ bins_of s
    size = ap length copied ∙ length_counts_in asks

    pub front_long : b ≡ length (take b u)
    front_long = q ∙ sym size

    module _ {n : ℕ} (p : n ≡ pixels_in w h s k) where
      -- what clipping and mapping them asks
      pub from_asks : FromCountsAsks s.clip n s.min s.max (take b u) (length (block m k b))
      from_asks =
          let film : MapReady w h s cs (length m) (length t) = asks.film in
          let tiled : Tiled w h s = film.tiled in
          record {
            counted = record {
              holds = subst (λ j. Holds s.clip n j) (sym size) (clip_holds s.clip n (bins_of s) film.fair (omega (arith, tiled.bins)));
              all_pixels = ap total copied ∙ tile_sum asks ∙ sym p;
              few_pixels = omega (arith, tile_pixels_most tiled asks.tile);
              some = omega (arith, size, tiled.bins);
              few = omega (arith, size, tiled.binsmost);
            };
            some = omega (arith, tile_pixels_some tiled asks.tile);
            order = omega (arith, tiled.min);
            most = tiled.max;
            enough = omega (arith, size, length_block m k b (block_room s film.fitting asks.tile q));
          }

      -- what it leaves and answers
      pub one_mapped : {ys v : List ℕ} {took : Spent} → v ≡ clipped_by s.edition s.clip n (take b u) → ys ≡ onto (block m k b) (counts_mapping s.min s.max s.edition s.clip n (take b u))
          → took ≡ spent_by s.edition s.clip n (take b u) → OneMapped w h s cs k m (put_mid (k * b) (k * b + b - k * b) m ys) t (v ++ drop b u) took
      one_mapped {ys} {v} f g j =
          record {
            placed = record {
              map = over_part m (mapping_from w h s cs k) (k * b) b (block_room s asks.film.fitting asks.tile q) (length_mapping_from asks ∙ sym q) (g ∙ rw (copied, p) refl) ∙ rw q refl;
              behind = ap (λ i. drop i (v ++ drop b u)) (sym q) ∙ drop_at v (drop b u) b (clipped ∙ sym q) ∙ ap (drop b) held ∙ drop_onto t (counts_in s cs k) b long ∙ ap (λ i. drop i t) q;
              size = length_front u v b (clipped ∙ sym size) ∙ ap length held ∙ length_onto t (counts_in s cs k) (omega (arith, long, copy_asks.room));
            };
            spent = j ∙ ap₂ (spent_by s.edition s.clip) p copied;
          }
        where
          clipped : length v ≡ bins_of s
          clipped = ap length f ∙ length_clipped_by s.edition s.clip n (take b u) ∙ size
