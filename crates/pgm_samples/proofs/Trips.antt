-- Greys laid down and read again are the same greys.
-- Assumes nothing.
use Prim.Native.Nat.{ℕ, ◌+◌, ◌*◌, ◌<◌}
use mathlib.Core.Bool.{Bool, true, false}
use mathlib.Core.List.{List}
use mathlib.Core.Path.{◌≡◌, refl, sym, ap, ap₂, ◌∙◌}
use lib.ListN.{length, get_or}
use native.Mathlib.Nat.{div-add-mod'}
use native.Mathlib.Omega.{arith}
use Rattle.base_lists.proofs.Tabs.{eq_tab, tab_all}
use Rattle.base_lists.proofs.Blocks.{get_or_joined, joined_ones}
use Rattle.pgm_samples.specs.Samples.{bytes_of, sample_at, packed, unpacked}

-- one byte a sample: the raster is the greys
pub packed_narrow : (vs : List ℕ) → packed false vs ≡ vs
unfolding packed
packed_narrow vs = joined_ones (length vs) (λ i. get_or vs i 0) ∙ tab_all vs 0

-- byte j of the two of grey i
wide_byte : (vs : List ℕ) (i j : ℕ) → i < length vs → j < 2 → get_or (packed true vs) (i * 2 + j) 0 ≡ get_or (bytes_of true (get_or vs i 0)) j 0
unfolding packed
wide_byte vs i j l b = get_or_joined 2 (length vs) (λ k. bytes_of true (get_or vs k 0)) (λ k m. refl) i j 0 l b

-- sample i of the greys laid down is grey i
pub sample_packed : (two : Bool) (vs : List ℕ) (i : ℕ) → i < length vs → sample_at two (packed two vs) i ≡ get_or vs i 0
sample_packed false vs i l = ap (λ t. get_or t i 0) (packed_narrow vs)
sample_packed true vs i l =
    ap₂ (λ h k. h * 256 + k) (ap (λ n. get_or (packed true vs) n 0) start ∙ wide_byte vs i 0 l (omega arith)) (wide_byte vs i 1 l (omega arith)) ∙ div-add-mod' (get_or vs i 0) 256
  where
    start : i * 2 ≡ i * 2 + 0
    start = omega arith

-- greys laid down and read again are these greys
pub unpacked_packed : (two : Bool) (vs : List ℕ) → unpacked two (packed two vs) (length vs) ≡ vs
unfolding unpacked
unpacked_packed two vs = sym (eq_tab vs (length vs) (sample_at two (packed two vs)) 0 refl (λ i l. sym (sample_packed two vs i l)))
