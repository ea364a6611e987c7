-- The turns of `all_add_up` and `map_all`: tile by tile.
-- Assumes nothing.
use Prim.Native.Nat.{ℕ, ◌+◌, ◌*◌, ◌≤◌, ◌<◌}
use mathlib.Core.Bool.{Bool, true, false}
use mathlib.Core.List.{List}
use mathlib.Core.Path.{◌≡◌, refl, sym, ap, ◌∙◌}
use native.Mathlib.Nat.{mul-le-mul_right}
use native.Mathlib.Omega.{arith}
use lib.Dec.{eqb}
use lib.ListN.{length, drop}
use Rattle.base_lists.specs.Lists.{every, total, blocks, filled}
use Rattle.base_lists.proofs.Tabs.{and_both, every_suc, every_not}
use Rattle.base_lists.proofs.Blocks.{blocks_over, blocks_end, blocks_onto, length_blocks}
use Rattle.base_lists.proofs.Fills.{blocks_none}
use Rattle.base_lists.proofs.Maps.{filled_behind}
use Rattle.film_settings.specs.declared.Settings.{Settings}
use Rattle.film_settings.specs.Settings.{bins_of}
use Rattle.tile_clip.specs.declared.Spent.{Spent}
use Rattle.film_tiles.specs.Tiles.{pixels_in}
use Rattle.film_tiles.proofs.Turns.{Listed, listed_end}
use Rattle.film_count.specs.Counting.{counts_in}
use Rattle.film_map.specs.Counts.{adds_up_of, mapping_from, mappings_from, spent_from, spents_from, MapReady, MapOneAsks, OneMapped, AllMapped}
use Rattle.film_map.proofs.Tiles.{length_mapping_from}

-- ---- adding up

-- before tile k: the counts of the tiles before it add up
pub record Adding (w h : ℕ) (s : Settings) (cs : List ℕ) (k : ℕ) : Type 0 where
  pub so_far : every k (λ i. eqb (total (counts_in s cs i)) (pixels_in w h s i)) ≡ true

module _ (w h : ℕ) (s : Settings) (cs : List ℕ) where
  -- the first turn
  pub adding_first : Adding w h s cs 0
  unfolding every
  adding_first = record { so_far = refl }

  -- one tile more
  pub adding_next : {k : ℕ} {t : Bool} → Adding w h s cs k → t ≡ eqb (total (counts_in s cs k)) (pixels_in w h s k) → t ≡ true → Adding w h s cs (k + 1)
  adding_next {k} turn e y = record { so_far = every_suc k _ ∙ and_both _ _ turn.so_far (sym e ∙ y) }

  -- a tile whose counts do not
  pub adding_not : (k : ℕ) {t : Bool} → t ≡ eqb (total (counts_in s cs k)) (pixels_in w h s k) → t ≡ false → k < s.across * s.down → false ≡ adds_up_of w h s cs
  unfolding adds_up_of
  adding_not k e y l = sym (every_not (s.across * s.down) _ k l (sym e ∙ y))

  -- all tiles
  pub adding_end : {k : ℕ} → Adding w h s cs k → k ≤ s.across * s.down → s.across * s.down ≤ k → true ≡ adds_up_of w h s cs
  unfolding adds_up_of
  adding_end {k} turn l g =
      let q : k ≡ s.across * s.down = omega arith in
      sym (ap (λ n. every n (λ i. eqb (total (counts_in s cs i)) (pixels_in w h s i))) (sym q) ∙ turn.so_far)

-- ---- mapping

-- before tile k: the mappings of the tiles before it are laid down, and the scratch behind its first B entries is as it was
pub record Mapping (w h : ℕ) (s : Settings) (cs m₀ m t₀ t : List ℕ) (k : ℕ) : Type 0 where
  pub map : m ≡ blocks (bins_of s) (mapping_from w h s cs) m₀ k
  pub behind : drop (bins_of s) t ≡ drop (bins_of s) t₀
  pub size : length t ≡ length t₀

-- the first turn
pub mapping_first : {w h : ℕ} {s : Settings} {cs m₀ t₀ : List ℕ} → Mapping w h s cs m₀ m₀ t₀ t₀ 0
mapping_first {w} {h} {s} {cs} {m₀} = record { map = blocks_none (bins_of s) (mapping_from w h s cs) m₀; behind = refl; size = refl }

-- a mapped value for each bin of each tile
sized : {w h : ℕ} {s : Settings} {cs : List ℕ} {room scratch : ℕ} → MapReady w h s cs room scratch → (i : ℕ) → i < s.across * s.down → length (mapping_from w h s cs i) ≡ bins_of s
sized asks i l = length_mapping_from record { film = asks; tile = l }

module _ {w h : ℕ} {s : Settings} {cs m₀ t₀ : List ℕ} (asks : MapReady w h s cs (length m₀) (length t₀)) where
  -- the map buffer's length stays
  pub mapping_length : {m t : List ℕ} {k : ℕ} → Mapping w h s cs m₀ m t₀ t k → k ≤ s.across * s.down → length m ≡ length m₀
  mapping_length {m} {t} {k} turn l =
      ap length turn.map
      ∙ length_blocks (bins_of s) (mapping_from w h s cs) m₀ k (λ i q. sized asks i (omega arith)) (omega (arith, mul-le-mul_right (bins_of s) l, asks.fitting))

  -- what tile k asks
  pub mapping_asks : {m t : List ℕ} {k : ℕ} → Mapping w h s cs m₀ m t₀ t k → k < s.across * s.down → MapOneAsks w h s cs k (length m) (length t)
  mapping_asks turn l = rw (mapping_length turn (omega arith), turn.size) record { film = asks; tile = l }

  -- one tile more
  pub mapping_next : {m n t u : List ℕ} {k : ℕ} {took : Spent} → Mapping w h s cs m₀ m t₀ t k → k < s.across * s.down → OneMapped w h s cs k m n t u took
      → Mapping w h s cs m₀ n t₀ u (k + 1)
  mapping_next {m} {n} {t} {u} {k} turn l done =
      record {
        map = blocks_over (bins_of s) (mapping_from w h s cs) m₀ k (λ i q. sized asks i (omega arith)) turn.map done.placed.map;
        behind = done.placed.behind ∙ turn.behind;
        size = done.placed.size ∙ turn.size;
      }

  -- all tiles, and the scratch cleared
  pub mapping_end : {m t u n₀ n : List ℕ} {k b : ℕ} → Mapping w h s cs m₀ m t₀ t k → Listed (spent_from w h s cs) n₀ n k → k ≤ s.across * s.down → s.across * s.down ≤ k
      → b ≡ bins_of s → u ≡ filled (λ i. 0) t b → AllMapped w h s cs m₀ m t₀ u n₀ n
  unfolding mappings_from spents_from
  mapping_end {m} {t} {u} {n₀} {n} {k} {b} turn listed l g q e =
      record {
        map = blocks_end (bins_of s) (mapping_from w h s cs) m₀ turn.map l g
            ∙ blocks_onto (bins_of s) (mapping_from w h s cs) m₀ (s.across * s.down) (sized asks);
        scratch = e ∙ ap (filled (λ i. 0) t) q ∙ filled_behind (λ i. 0) t t₀ (bins_of s) turn.behind;
        list = listed_end listed l g;
      }
