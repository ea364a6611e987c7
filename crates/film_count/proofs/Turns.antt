-- The turns of `count_all`: tile by tile.
-- Assumes nothing.
use Prim.Native.Nat.{ℕ, ◌+◌, ◌*◌, ◌≤◌, ◌<◌}
use mathlib.Core.List.{List}
use mathlib.Core.Path.{◌≡◌, ap, ◌∙◌}
use native.Mathlib.Nat.{mul-le-mul_right}
use native.Mathlib.Omega.{arith}
use lib.ListN.{length}
use Rattle.base_lists.specs.Lists.{blocks, onto, over}
use Rattle.base_lists.proofs.Blocks.{blocks_over, blocks_end, blocks_onto, length_blocks}
use Rattle.base_lists.proofs.Fills.{blocks_none}
use Rattle.film_settings.specs.declared.Settings.{Settings}
use Rattle.film_settings.specs.Settings.{bins_of}
use Rattle.film_count.specs.Counting.{raw_counts, countings, CountReady, CountTileAsks}
use Rattle.film_count.proofs.Tiles.{length_raw}

-- before tile k: the counts of the tiles before it are laid down
pub record Counting (w h : ℕ) (pic : List ℕ) (s : Settings) (c₀ c : List ℕ) (k : ℕ) : Type 0 where
  pub laid : c ≡ blocks (bins_of s) (raw_counts w h pic s) c₀ k

-- the first turn
pub counting_first : {w h : ℕ} {pic : List ℕ} {s : Settings} {c₀ : List ℕ} → Counting w h pic s c₀ c₀ 0
counting_first {w} {h} {pic} {s} {c₀} = record { laid = blocks_none (bins_of s) (raw_counts w h pic s) c₀ }

module _ {w h : ℕ} {pic : List ℕ} {s : Settings} {c₀ : List ℕ} (asks : CountReady w h pic s (length c₀)) where
  -- the length stays
  pub counting_length : {c : List ℕ} {k : ℕ} → Counting w h pic s c₀ c k → k ≤ s.across * s.down → length c ≡ length c₀
  counting_length {c} {k} turn l =
      ap length turn.laid
      ∙ length_blocks (bins_of s) (raw_counts w h pic s) c₀ k (λ i q. length_raw w h pic s i) (omega (arith, mul-le-mul_right (bins_of s) l, asks.fitting))

  -- what tile k asks
  pub counting_asks : {c : List ℕ} {k : ℕ} → Counting w h pic s c₀ c k → k < s.across * s.down → CountTileAsks w h pic s k (length c)
  counting_asks turn l = rw (counting_length turn (omega arith)) record { film = asks; tile = l }

  -- one tile more
  pub counting_next : {c d : List ℕ} {k : ℕ} → Counting w h pic s c₀ c k → d ≡ over c (k * bins_of s) (raw_counts w h pic s k) → Counting w h pic s c₀ d (k + 1)
  counting_next {c} {d} {k} turn e = record { laid = blocks_over (bins_of s) (raw_counts w h pic s) c₀ k (λ i q. length_raw w h pic s i) turn.laid e }

  -- all tiles
  pub counting_end : {c : List ℕ} {k : ℕ} → Counting w h pic s c₀ c k → k ≤ s.across * s.down → s.across * s.down ≤ k → c ≡ onto c₀ (countings w h pic s)
  unfolding countings
  counting_end turn l g =
      blocks_end (bins_of s) (raw_counts w h pic s) c₀ turn.laid l g
      ∙ blocks_onto (bins_of s) (raw_counts w h pic s) c₀ (s.across * s.down) (λ i p. length_raw w h pic s i)
