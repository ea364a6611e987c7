-- The turns of `count_one` and `count_row`: what a grey, and each grey of a row, does to the counts.
-- Assumes nothing.
use Prim.Native.Nat.{ℕ, ◌+◌, ◌≤◌, ◌<◌}
use mathlib.Core.Bool.{true}
use mathlib.Core.List.{List, [], ◌∷◌}
use mathlib.Core.Path.{◌≡◌, sym, ap, ap₂, ◌∙◌}
use lib.ListN.{length, take, get_or, set}
use lib.Seq.{take-suc, take_all, length-take-le}
use native.Mathlib.Numerals.{add-one}
use native.Mathlib.Omega.{arith}
use Rattle.base_lists.proofs.Alls.{all_one, all_at}
use Rattle.base_range.specs.Scan.{within}
use Rattle.base_range.proofs.Spans.{within_low, within_high}
use Rattle.tile_bin.specs.Binning.{bin_of, bin_by_of}
use Rattle.tile_bin.proofs.Bins.{bin_below, bin_by}
use Rattle.tile_count.specs.Tally.{added_of, CountRowAsks}
use Rattle.tile_count.proofs.Counts.{added_none, added_one, added_added, added_le, length_added}

-- ---- one grey

module _ {v lo hi b factor : ℕ} {cs : List ℕ} (asks : CountRowAsks (v ∷ []) lo hi b factor cs) where
  one_within : within lo hi v ≡ true
  one_within = all_at (within lo hi) (v ∷ []) asks.greys 0 0 (omega arith)

  -- what its bin asks
  pub one_asks_bin : (lo ≤ v) × (v ≤ 4095)
  one_asks_bin = (within_low lo hi v one_within, omega (arith, within_high lo hi v one_within, asks.most))

  module _ {k : ℕ} (e : k ≡ bin_by_of lo factor v) where
    one_by : k ≡ bin_of lo hi b v
    one_by = e ∙ ap (λ f. bin_by_of lo f v) asks.by ∙ bin_by lo hi b v one_within asks.most asks.some

    one_below : bin_of lo hi b v < b
    one_below = bin_below lo hi b v one_within asks.some

    -- its bin has a count
    pub one_room : k < length cs
    one_room = omega (arith, one_by, one_below, asks.room)

    -- which can grow by one
    pub one_fits : get_or cs k 0 + 1 < 4294967296
    one_fits = asks.fits k (omega (arith, one_by, one_below))

    -- and does
    pub one_added : set cs k (get_or cs k 0 + 1) ≡ added_of lo hi b cs (v ∷ [])
    one_added = ap₂ (λ s j. set s j (get_or s j 0 + 1)) (added_none lo hi b cs asks.room) one_by ∙ added_one lo hi b cs [] v one_below

-- ---- a row

module _ {row : List ℕ} {lo hi b factor : ℕ} {cs₀ : List ℕ} (asks : CountRowAsks row lo hi b factor cs₀) {cs : List ℕ} {x v : ℕ}
    (l : x < length row) (q : v ≡ get_or row x 0) (e : cs ≡ added_of lo hi b cs₀ (take x row)) where
  -- what the next grey asks
  pub next_asks : CountRowAsks (v ∷ []) lo hi b factor cs
  next_asks =
      record {
        by = asks.by;
        most = asks.most;
        some = asks.some;
        room = omega (arith, ap length e ∙ length_added lo hi b cs₀ (take x row) asks.room, asks.room);
        greys = all_one (within lo hi) (rw q (all_at (within lo hi) row asks.greys x 0 l));
        fits = λ k h. omega (arith, ap (λ s. get_or s k 0) e, added_le lo hi b cs₀ (take x row) k h, length-take-le x row (omega arith), asks.fits k h);
      }

  -- one grey more
  pub row_next : {cs' : List ℕ} → cs' ≡ added_of lo hi b cs (v ∷ []) → cs' ≡ added_of lo hi b cs₀ (take (x + 1) row)
  row_next h =
      h
      ∙ ap₂ (added_of lo hi b) e (ap (λ u. u ∷ []) q)
      ∙ added_added lo hi b cs₀ (take x row) (get_or row x 0 ∷ [])
      ∙ ap (added_of lo hi b cs₀) (sym (rw add-one (take-suc row x 0 l)))

-- the whole row
pub row_end : (lo hi b : ℕ) (cs₀ row : List ℕ) {cs : List ℕ} {x : ℕ} → cs ≡ added_of lo hi b cs₀ (take x row) → length row ≤ x → cs ≡ added_of lo hi b cs₀ row
row_end lo hi b cs₀ row {cs} {x} e h = e ∙ ap (added_of lo hi b cs₀) (take_all x row h)
