-- A pass over all bins: each bin c becomes f c, and the g c are added up.
-- Assumes nothing.
use Prim.Native.Nat.{ℕ, ◌+◌, ◌≤◌, ◌<◌}
use mathlib.Core.List.{List, [], ◌∷◌, ◌++◌, map}
use mathlib.Core.Path.{◌≡◌, refl, sym, ap, ◌∙◌}
use lib.ListN.{length, length-set, get_or, set, take, drop}
use lib.Seq.{drop-cons, drop-length, drop-set-lt}
use native.Mathlib.Numerals.{add-one}
use native.Mathlib.Omega.{arith}
use Rattle.base_lists.specs.Lists.{total}
use Rattle.base_lists.proofs.Totals.{map_next, map_end}

-- what is still to be done from the place i on is what was to be done at first; the sum is of the bins before it
pub record Passing (f g : ℕ → ℕ) (first : List ℕ) (i : ℕ) (cs : List ℕ) (sum : ℕ) : Type 0 where
  pub bins : take i cs ++ map f (drop i cs) ≡ map f first
  pub still : sum + total (map g (drop i cs)) ≡ total (map g first)
  pub within : i ≤ length cs
  pub long : length cs ≡ length first

-- before the first bin
pub passing_first : (f g : ℕ → ℕ) (cs : List ℕ) {sum : ℕ} → sum ≡ 0 → Passing f g cs 0 cs sum
passing_first f g cs {sum} z = record { bins = refl; still = omega arith; within = omega arith; long = refl }

-- the sum from a place on: of its bin, and of the bins behind it
sum_next : (g : ℕ → ℕ) (cs : List ℕ) (i : ℕ) → i < length cs → total (map g (drop i cs)) ≡ g (get_or cs i 0) + total (map g (drop (i + 1) cs))
unfolding total
sum_next g cs i h = rw (add-one i, drop-cons cs i 0 h) refl

-- the sum and the bin at the place add up to no more than all bins
pub passing_most : {f g : ℕ → ℕ} {first : List ℕ} {i : ℕ} {cs : List ℕ} {sum : ℕ} → Passing f g first i cs sum → i < length cs
    → sum + g (get_or cs i 0) ≤ total (map g first)
passing_most {g = g} {i = i} {cs = cs} p h = omega (arith, p.still, sum_next g cs i h)

-- one bin more is passed
pub passing_next : {f g : ℕ → ℕ} {first : List ℕ} {i : ℕ} {cs : List ℕ} {sum v t : ℕ} → Passing f g first i cs sum → i < length cs
    → v ≡ f (get_or cs i 0) → t ≡ sum + g (get_or cs i 0) → Passing f g first (i + 1) (set cs i v) t
passing_next {f} {g} {first} {i} {cs} {sum} {v} {t} p h ev et =
    record {
      bins = ap (λ x. take (i + 1) (set cs i x) ++ map f (drop (i + 1) (set cs i x))) ev ∙ (map_next f cs i h ∙ p.bins);
      still = rw (drop-set-lt (i + 1) cs i v (omega arith)) (omega (arith, p.still, sum_next g cs i h));
      within = rw length-set (omega arith);
      long = length-set cs i v ∙ p.long;
    }

-- all bins are passed
pub passing_bins : {f g : ℕ → ℕ} {first : List ℕ} {i : ℕ} {cs : List ℕ} {sum : ℕ} → Passing f g first i cs sum → length cs ≤ i → cs ≡ map f first
passing_bins {f} {i = i} {cs = cs} p h = sym (map_end f cs i h p.within) ∙ p.bins

-- and added up
pub passing_sum : {f g : ℕ → ℕ} {first : List ℕ} {i : ℕ} {cs : List ℕ} {sum : ℕ} → Passing f g first i cs sum → length cs ≤ i
    → sum ≡ total (map g first)
unfolding total
passing_sum {g = g} {i = i} {cs = cs} p h =
    let e : i ≡ length cs = omega (arith, p.within) in
    let z : total (map g (drop i cs)) ≡ 0 = rw (e, drop-length cs) refl in
    omega (arith, p.still)

-- counts added up as they are
pub total_same : (cs : List ℕ) → total (map (λ c. c) cs) ≡ total cs
unfolding total
total_same [] = refl
total_same (c ∷ cs) = ap (λ x. c + x) (total_same cs)
