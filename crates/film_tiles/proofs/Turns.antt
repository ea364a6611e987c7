-- The turns of `map_tiles`: each tile's mapping is laid down in its place, and what clipping it took in the list.
-- Assumes nothing.
use Prim.Native.Nat.{ℕ, ◌+◌, ◌*◌, ◌≤◌, ◌<◌}
use mathlib.Core.List.{List}
use mathlib.Core.Path.{◌≡◌, refl, ap, ◌∙◌}
use native.Mathlib.Nat.{mul-le-mul_right}
use native.Mathlib.Omega.{arith}
use lib.ListN.{length, drop}
use Rattle.base_lists.specs.Lists.{joined, blocks, onto, over, filled}
use Rattle.base_lists.proofs.Blocks.{blocks_over, blocks_end, blocks_onto, length_blocks}
use Rattle.base_lists.proofs.Fills.{blocks_none}
use Rattle.base_lists.proofs.Maps.{filled_behind}
use Rattle.film_settings.specs.declared.Settings.{Settings}
use Rattle.film_settings.specs.Settings.{bins_of}
use Rattle.tile_clip.specs.declared.Spent.{Spent}
use Rattle.film_tiles.specs.Tiles.{tile_map_of, mappings, spent_in, spents, spent_pair, SpentAsks, TilesReady, MapTileAsks, TileDone, TilesDone}
use Rattle.film_tiles.proofs.Films.{length_tile_map}

-- ---- the list, whatever clipping a tile takes

-- before tile k: what the tiles before it took is laid down
pub record Listed (took : ℕ → Spent) (n₀ n : List ℕ) (k : ℕ) : Type 0 where
  pub list : n ≡ blocks 2 (λ i. spent_pair (took i)) n₀ k

module _ {took : ℕ → Spent} {n₀ : List ℕ} where
  -- the first turn
  pub listed_first : Listed took n₀ n₀ 0
  listed_first = record { list = blocks_none 2 (λ i. spent_pair (took i)) n₀ }

  -- its length stays
  pub listed_length : {n : List ℕ} {k tiles : ℕ} → Listed took n₀ n k → k ≤ tiles → 2 * tiles ≤ length n₀ → length n ≡ length n₀
  listed_length {n} {k} {tiles} turn l room = ap length turn.list ∙ length_blocks 2 (λ i. spent_pair (took i)) n₀ k (λ i q. refl) (omega arith)

  -- what tile k asks
  pub listed_asks : {n : List ℕ} {k tiles : ℕ} → Listed took n₀ n k → k < tiles → tiles ≤ 256 → 2 * tiles ≤ length n₀ → SpentAsks k (length n)
  listed_asks {n} {k} {tiles} turn l few room = record { tile = omega arith; room = omega (arith, listed_length {tiles = tiles} turn (omega arith) room) }

  -- one tile more
  pub listed_next : {n n' : List ℕ} {k : ℕ} {p : Spent} → Listed took n₀ n k → p ≡ took k → n' ≡ over n (k * 2) (spent_pair p) → Listed took n₀ n' (k + 1)
  listed_next {n} {n'} {k} turn q e =
      record { list = blocks_over 2 (λ i. spent_pair (took i)) n₀ k (λ i l. refl) turn.list (e ∙ ap (λ (x : Spent). over n (k * 2) (spent_pair x)) q) }

  -- all tiles
  pub listed_end : {n : List ℕ} {k tiles : ℕ} → Listed took n₀ n k → k ≤ tiles → tiles ≤ k → n ≡ onto n₀ (joined tiles (λ i. spent_pair (took i)))
  listed_end {n} {k} {tiles} turn l g =
      blocks_end 2 (λ i. spent_pair (took i)) n₀ turn.list l g ∙ blocks_onto 2 (λ i. spent_pair (took i)) n₀ tiles (λ i q. refl)

-- ---- the mappings

-- before tile k: the mappings of the tiles before it are laid down, and the scratch behind its first B entries is as it was
pub record Laid (w h : ℕ) (pic : List ℕ) (s : Settings) (m₀ m t₀ t : List ℕ) (k : ℕ) : Type 0 where
  pub map : m ≡ blocks (bins_of s) (tile_map_of w h pic s) m₀ k
  pub behind : drop (bins_of s) t ≡ drop (bins_of s) t₀
  pub size : length t ≡ length t₀

module _ {w h : ℕ} {pic : List ℕ} {s : Settings} {m₀ t₀ : List ℕ} where
  -- the first turn
  pub laid_first : Laid w h pic s m₀ m₀ t₀ t₀ 0
  laid_first = record { map = blocks_none (bins_of s) (tile_map_of w h pic s) m₀; behind = refl; size = refl }

module _ {w h : ℕ} {pic : List ℕ} {s : Settings} {m₀ t₀ : List ℕ} (asks : TilesReady w h pic s (length m₀) (length t₀)) where
  -- the map buffer's length stays
  pub laid_length : {m t : List ℕ} {k : ℕ} → Laid w h pic s m₀ m t₀ t k → k ≤ s.across * s.down → length m ≡ length m₀
  laid_length {m} {t} {k} laid l =
      ap length laid.map
      ∙ length_blocks (bins_of s) (tile_map_of w h pic s) m₀ k (λ i q. length_tile_map w h pic s i)
      (omega (arith, mul-le-mul_right (bins_of s) l, asks.work.ready.fitting))

  -- what tile k asks
  pub laid_asks : {m t : List ℕ} {k : ℕ} → Laid w h pic s m₀ m t₀ t k → k < s.across * s.down → MapTileAsks w h pic s k (length m) (length t)
  laid_asks {m} {t} {k} laid l = rw (laid_length laid (omega arith), laid.size) record { film = asks; tile = l }

  -- one tile more
  pub laid_next : {m n t u : List ℕ} {k : ℕ} {took : Spent} → Laid w h pic s m₀ m t₀ t k → TileDone w h pic s k m n t u took → Laid w h pic s m₀ n t₀ u (k + 1)
  laid_next {m} {n} {t} {u} {k} laid done =
      record {
        map = blocks_over (bins_of s) (tile_map_of w h pic s) m₀ k (λ i q. length_tile_map w h pic s i) laid.map done.placed.map;
        behind = done.placed.behind ∙ laid.behind;
        size = done.placed.size ∙ laid.size;
      }

  -- all tiles, and the scratch cleared
  pub laid_end : {m t u n₀ n : List ℕ} {k b : ℕ} → Laid w h pic s m₀ m t₀ t k → Listed (spent_in w h pic s) n₀ n k → k ≤ s.across * s.down → s.across * s.down ≤ k
      → b ≡ bins_of s → u ≡ filled (λ i. 0) t b → TilesDone w h pic s m₀ m t₀ u n₀ n
  unfolding mappings spents
  laid_end {m} {t} {u} {n₀} {n} {k} {b} laid listed l g q e =
      record {
        map = blocks_end (bins_of s) (tile_map_of w h pic s) m₀ laid.map l g
            ∙ blocks_onto (bins_of s) (tile_map_of w h pic s) m₀ (s.across * s.down) (λ i p. length_tile_map w h pic s i);
        scratch = e ∙ ap (filled (λ i. 0) t) q ∙ filled_behind (λ i. 0) t t₀ (bins_of s) laid.behind;
        list = listed_end listed l g;
      }
