-- Laws of `sum` and `total`.
-- Assumes nothing.
use Prim.Native.Nat.{ℕ, zero, suc, ◌+◌, ◌*◌, ◌≤◌, ◌<◌}
use mathlib.Core.List.{List, [], ◌∷◌, ◌++◌}
use mathlib.Core.Path.{◌≡◌, refl, sym, ap, ap₂, ◌∙◌}
use lib.ListN.{length, take, drop, get_or, take-append-drop}
use native.Mathlib.Nat.{suc-mul, zero-mul}
use native.Mathlib.Omega.{arith}
use Rattle.base_lists.specs.Lists.{tab, sum, total}

pub total_append : (xs ys : List ℕ) → total (xs ++ ys) ≡ total xs + total ys
unfolding total
total_append [] ys = omega arith
total_append (x ∷ xs) ys = rw (total_append xs ys) (omega arith)

pub total_tab : (n : ℕ) (f : ℕ → ℕ) → total (tab n f) ≡ sum n f
unfolding total tab sum
total_tab zero f = refl
total_tab (suc n) f = rw (total_append (tab n f) (f n ∷ []), total_tab n f) (omega arith)

pub total_take_drop : (i : ℕ) (xs : List ℕ) → total (take i xs) + total (drop i xs) ≡ total xs
total_take_drop i xs = sym (total_append (take i xs) (drop i xs)) ∙ ap total (take-append-drop i xs)

pub sum_cong : (n : ℕ) {f g : ℕ → ℕ} → ((i : ℕ) → i < n → f i ≡ g i) → sum n f ≡ sum n g
unfolding sum
sum_cong zero h = refl
sum_cong (suc n) h = ap₂ (λ a b. a + b) (sum_cong n (λ i l. h i (omega arith))) (h n (omega arith))

pub sum_add : (n : ℕ) (f g : ℕ → ℕ) → sum n (λ i. f i + g i) ≡ sum n f + sum n g
unfolding sum
sum_add zero f g = refl
sum_add (suc n) f g = rw (sum_add n f g) (omega arith)

pub sum_const : (n k : ℕ) → sum n (λ i. k) ≡ n * k
unfolding sum
sum_const zero k = sym (zero-mul k)
sum_const (suc n) k = rw (sum_const n k, suc-mul) refl

-- a list none of whose entries is above k adds up to at most k for each entry
pub total_le : (xs : List ℕ) (k : ℕ) → ((i : ℕ) → i < length xs → get_or xs i 0 ≤ k) → total xs ≤ length xs * k
unfolding total
total_le [] k h = omega arith
total_le (x ∷ xs) k h = rw suc-mul (omega (arith, total_le xs k (λ i l. h (suc i) (omega arith)), h zero (omega arith)))
