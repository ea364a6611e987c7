-- Laws of a film's mappings: the limit has room for each tile, and what `map_tile` asks and leaves.
-- Assumes nothing.
use Prim.Native.Nat.{ℕ, ◌+◌, ◌-◌, ◌*◌, ◌≤◌, ◌<◌}
use mathlib.Core.Bool.{true, false}
use mathlib.Core.List.{List}
use mathlib.Core.Path.{◌≡◌, refl, sym, ap, ◌∙◌, subst}
use native.Mathlib.Omega.{arith}
use lib.ListN.{length, take, drop, get_or}
use borrow.Author.Tests.{not-false}
use borrow.Rule.Slice.PartMut.{put_mid}
use Rattle.base_lists.specs.Lists.{joined, all}
use Rattle.base_lists.proofs.Fills.{length_joined, joined_cong, drop_onto, length_onto}
use Rattle.base_lists.proofs.Blocks.{block_fits, get_or_joined}
use Rattle.base_lists.proofs.Maps.{over_part}
use Rattle.base_lists.proofs.Windows.{length_block}
use Rattle.base_lists.proofs.Alls.{all_joined}
use Rattle.tile_limit.specs.declared.Clip.{Clip}
use Rattle.tile_limit.specs.declared.Clip.TheVariants.{Off, Factor}
use Rattle.tile_limit.specs.Limit.{allowed}
use Rattle.tile_limit.proofs.Laws.{limit_holds}
use Rattle.tile_count.specs.declared.Rect.{Rect}
use Rattle.base_range.specs.Scan.{within}
use Rattle.tile_count.specs.Tally.{greys_of, counts_of}
use Rattle.tile_clip.specs.declared.Spent.{Spent}
use Rattle.tile_map.specs.Tile.{mapped_of, counts_mapping, tile_counts, tile_divides, tile_mapping, Holds, off, factor, TileMapped, MappingAsks}
use Rattle.tile_count.proofs.Greys.{greys_all}
use Rattle.tile_map.proofs.Tiles.{length_tile_counts, tile_mapping_from, length_tile_mapping, get_or_tile_mapping, tile_mapping_within}
use Rattle.film_settings.specs.declared.Settings.{Settings}
use Rattle.film_settings.specs.Settings.{bins_of, entries_of, clip_bad_of, Ready}
use Rattle.film_settings.proofs.Ready.{entries_small}
use Rattle.film_tiles.specs.Tiles.{tile_of, pixels_in, tile_map_of, mappings, spent_in, TilesReady, MapTileAsks, TileDone}
use Rattle.film_tiles.proofs.Tiles.{tile_area, length_tile_greys, tile_inside}

-- ---- the limit has room for a tile's pixels

-- of any clip setting that is not refused: "a clip refusal never occurs"
pub clip_holds : (clip : Clip) (n b : ℕ) → clip_bad_of clip ≡ false → 0 < b → Holds clip n b
clip_holds Off n b g p = off
clip_holds (Factor f) n b g p = factor (not-false (allowed f) g) (limit_holds f n b p)

module _ {w h : ℕ} {pic : List ℕ} {s : Settings} {room scratch : ℕ} (asks : TilesReady w h pic s room scratch) where
  -- so the limit has room for each tile
  pub tile_holds : (k : ℕ) → Holds s.clip (pixels_in w h s k) (bins_of s)
  tile_holds k = clip_holds s.clip (pixels_in w h s k) (bins_of s) asks.work.ready.clip (omega (arith, asks.work.ready.tiled.bins))

  -- a tile's greys lie in Min to Max
  pub tile_greys : {k : ℕ} → k < s.across * s.down → all (within s.min s.max) (greys_of pic w (tile_of w h s k)) ≡ true
  tile_greys {k} l =
      let inside = tile_inside asks.work.ready.tiled l asks.work.ready.whole in
      greys_all (within s.min s.max) pic w (tile_of w h s k) inside.across inside.down asks.work.greys

  -- the same of the tile's rectangle
  pub rect_holds : (k : ℕ) → Holds s.clip ((tile_of w h s k).width * (tile_of w h s k).height) (bins_of s)
  rect_holds k = rw (tile_area w h s.across s.down k) (tile_holds k)

-- ---- the mappings

-- a mapped value for each bin
pub length_tile_map : (w h : ℕ) (pic : List ℕ) (s : Settings) (k : ℕ) → length (tile_map_of w h pic s k) ≡ bins_of s
unfolding tile_map_of
length_tile_map w h pic s k = length_tile_mapping s.min s.max (bins_of s) s.edition s.clip (greys_of pic w (tile_of w h s k))

-- the mappings are each tile's own raw counts, mapped by the edition and the clip setting
pub mappings_from_lem : (w h : ℕ) (pic : List ℕ) (s : Settings)
    → mappings w h pic s
    ≡ joined (s.across * s.down) (λ k. counts_mapping s.min s.max s.edition s.clip (pixels_in w h s k) (counts_of s.min s.max (bins_of s) (greys_of pic w (tile_of w h s k))))
unfolding mappings tile_map_of
mappings_from_lem w h pic s =
    joined_cong (s.across * s.down)
    (λ k l.
    tile_mapping_from s.min s.max (bins_of s) s.edition s.clip (greys_of pic w (tile_of w h s k))
    ∙ ap (λ n. counts_mapping s.min s.max s.edition s.clip n (counts_of s.min s.max (bins_of s) (greys_of pic w (tile_of w h s k)))) (length_tile_greys w h pic s k))

-- and go by where the tiles lie
pub mappings_by : (w h : ℕ) (pic : List ℕ) (s : Settings) {rect : ℕ → Rect} → ((k : ℕ) → tile_of w h s k ≡ rect k)
    → mappings w h pic s ≡ joined (s.across * s.down) (λ k. tile_mapping s.min s.max (bins_of s) s.edition s.clip (greys_of pic w (rect k)))
unfolding mappings tile_map_of
mappings_by w h pic s same = joined_cong (s.across * s.down) (λ k l. ap (λ r. tile_mapping s.min s.max (bins_of s) s.edition s.clip (greys_of pic w r)) (same k))

-- "(grid across) x (grid down) x B entries"
pub length_mappings : (w h : ℕ) (pic : List ℕ) (s : Settings) → length (mappings w h pic s) ≡ entries_of s
unfolding mappings
length_mappings w h pic s = length_joined (bins_of s) (s.across * s.down) (tile_map_of w h pic s) (λ k l. length_tile_map w h pic s k)

-- "tiles row by row, bins upward"
pub get_or_mappings : (w h : ℕ) (pic : List ℕ) (s : Settings) (k b : ℕ) → k < s.across * s.down → b < bins_of s
    → get_or (mappings w h pic s) (k * bins_of s + b) 0 ≡ get_or (tile_map_of w h pic s k) b 0
unfolding mappings
get_or_mappings w h pic s k b l m = get_or_joined (bins_of s) (s.across * s.down) (tile_map_of w h pic s) (λ j q. length_tile_map w h pic s j) k b 0 l m

-- the entry of tile k and bin b is the mapped value of that tile's own clipped counts, over what they divide by
pub mappings_own : (w h : ℕ) (pic : List ℕ) (s : Settings) (k b : ℕ) → k < s.across * s.down → b < bins_of s
    → get_or (mappings w h pic s) (k * bins_of s + b) 0
    ≡ mapped_of s.min s.max (tile_divides s.min s.max (bins_of s) s.edition s.clip (greys_of pic w (tile_of w h s k))) (tile_counts s.min s.max (bins_of s) s.edition s.clip (greys_of pic w (tile_of w h s k))) b
unfolding tile_map_of
mappings_own w h pic s k b l q =
    get_or_mappings w h pic s k b l q
    ∙ get_or_tile_mapping s.min s.max (bins_of s) s.edition s.clip (greys_of pic w (tile_of w h s k)) b q

module _ {w h : ℕ} {pic : List ℕ} {s : Settings} {room scratch : ℕ} (asks : TilesReady w h pic s room scratch) where
  -- a tile's mapped values lie in Min to Max
  pub tile_map_within : {k : ℕ} → k < s.across * s.down → all (within s.min s.max) (tile_map_of w h pic s k) ≡ true
  unfolding tile_map_of
  tile_map_within {k} l =
      tile_mapping_within s.min s.max (bins_of s) s.edition s.clip (greys_of pic w (tile_of w h s k)) (tile_greys asks l)
      (omega (arith, asks.work.ready.tiled.bins))
      (omega (arith, asks.work.ready.tiled.min))
      (subst (λ n. Holds s.clip n (bins_of s)) (sym (length_tile_greys w h pic s k)) (tile_holds asks k))

  -- and so do all
  pub mappings_within : all (within s.min s.max) (mappings w h pic s) ≡ true
  unfolding mappings
  mappings_within = all_joined (within s.min s.max) (s.across * s.down) (tile_map_of w h pic s) (λ k l. tile_map_within l)

-- ---- the steps of `map_tile`

-- block k of the mappings lies within the map buffer
pub tile_room : {w h : ℕ} {pic : List ℕ} {s : Settings} {k room scratch b : ℕ} → MapTileAsks w h pic s k room scratch → b ≡ bins_of s → k * b + b ≤ room
tile_room {w} {h} {pic} {s} {k} {room} {scratch} {b} asks e =
    rw e (block_fits (bins_of s) (s.across * s.down) asks.tile asks.film.work.ready.fitting)

-- and within 16 x 16 tiles of 4096 bins
pub tile_small : {w h : ℕ} {pic : List ℕ} {s : Settings} {k room scratch b : ℕ} → MapTileAsks w h pic s k room scratch → b ≡ bins_of s → k * b + b ≤ 1048576
tile_small {w} {h} {pic} {s} {k} {room} {scratch} {b} asks e =
    let ready : Ready w h (length pic) s room = asks.film.work.ready in
    rw e
    (block_fits (bins_of s) (s.across * s.down) asks.tile
    (entries_small s.across s.down (bins_of s) ready.tiled.acrossmost ready.tiled.downmost ready.tiled.binsmost))

-- what the mapping of tile k asks, its rectangle and the bins as they were worked out
pub tile_asks : (m : List ℕ) {w h : ℕ} {pic : List ℕ} {s : Settings} {k scratch : ℕ} → MapTileAsks w h pic s k (length m) scratch
    → {r : Rect} {b : ℕ} → r ≡ tile_of w h s k → b ≡ bins_of s
    → MappingAsks pic w r s.min s.max b s.clip scratch (length (take (k * b + b - k * b) (drop (k * b) m)))
tile_asks m {w} {h} {pic} {s} {k} {scratch} asks {r} {b} p q =
    let ready : Ready w h (length pic) s (length m) = asks.film.work.ready in
    rw (p, length_block m k b (tile_room asks q), q)
    record {
      counts = record {
        inside = tile_inside ready.tiled asks.tile ready.whole;
        scale = record { order = omega (arith, ready.tiled.min); most = ready.tiled.max; some = ready.tiled.bins; few = ready.tiled.binsmost; reach = ready.tiled.reach };
        enough = asks.film.work.bins;
        greys = tile_greys asks.film asks.tile;
      };
      holds = rect_holds asks.film k;
      room = omega arith;
    }

-- what it leaves
pub tile_done : {w h : ℕ} {pic : List ℕ} {s : Settings} {k : ℕ} {m t : List ℕ} → MapTileAsks w h pic s k (length m) (length t)
    → {r : Rect} {b : ℕ} {ys u : List ℕ} {took : Spent} → r ≡ tile_of w h s k → b ≡ bins_of s
    → TileMapped s.min s.max b s.edition s.clip (greys_of pic w r) t u (take (k * b + b - k * b) (drop (k * b) m)) ys took
    → TileDone w h pic s k m (put_mid (k * b) (k * b + b - k * b) m ys) t u took
unfolding tile_map_of spent_in
tile_done {w} {h} {pic} {s} {k} {m} {t} asks {r} {b} {ys} {u} p q done =
    record {
      placed = record {
        map = over_part m (tile_mapping s.min s.max b s.edition s.clip (greys_of pic w r)) (k * b) b (tile_room asks q) (length_tile_mapping _ _ b s.edition s.clip _) done.mapping
            ∙ rw (p, q) refl;
        behind = ap (drop (bins_of s)) done.counts ∙ drop_onto t (tile_counts s.min s.max b s.edition s.clip (greys_of pic w r)) (bins_of s) counts;
        size = ap length done.counts ∙ length_onto t (tile_counts s.min s.max b s.edition s.clip (greys_of pic w r)) (omega (arith, counts, asks.film.work.bins));
      };
      spent = done.spent ∙ rw (p, q) refl;
    }
  where
    counts : length (tile_counts s.min s.max b s.edition s.clip (greys_of pic w r)) ≡ bins_of s
    counts = length_tile_counts s.min s.max b s.edition s.clip (greys_of pic w r) ∙ q
