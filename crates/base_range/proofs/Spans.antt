-- Laws of `within`, and of the least and the greatest of a list: all entries lie in a range where these two do.
-- Assumes nothing.
use Prim.Native.Nat.{ℕ, ◌+◌, ◌≤◌, ◌<◌, min, max}
use mathlib.Core.Bool.{Bool, true, false, ◌&&◌}
use mathlib.Core.List.{List, [], ◌∷◌, ◌++◌}
use mathlib.Core.Path.{◌≡◌, refl, sym, ap, ap₂, ◌∙◌}
use lib.Dec.{leb}
use lib.ListN.{length, take, get_or}
use lib.Seq.{take-suc, take_all}
use native.Mathlib.Nat.{not-suc-le-zero}
use native.Mathlib.Omega.{arith}
use native.Mathlib.Numerals.{add-one}
use borrow.Author.Tests.{leb-true, leb-false, le-leb, lt-leb}
use Rattle.base_lists.specs.Lists.{all}
use Rattle.base_lists.proofs.Alls.{all_append}
use Rattle.base_lists.proofs.Tabs.{and_left, and_right, and_both}
use Rattle.base_range.specs.Scan.{within}

-- a grey from Min to Max is not below Min
pub within_low : (lo hi v : ℕ) → within lo hi v ≡ true → lo ≤ v
unfolding within
within_low lo hi v h = leb-true lo v (and_left (leb lo v) (leb v hi) h)

-- and not above Max
pub within_high : (lo hi v : ℕ) → within lo hi v ≡ true → v ≤ hi
unfolding within
within_high lo hi v h = leb-true v hi (and_right (leb lo v) (leb v hi) h)

pub within_both : (lo hi v : ℕ) → lo ≤ v → v ≤ hi → within lo hi v ≡ true
unfolding within
within_both lo hi v l h = and_both (leb lo v) (leb v hi) (le-leb lo v l) (le-leb v hi h)

-- all of these entries lie in lo to hi where the least, a, and the greatest, b, do
pub record Spans (lo hi : ℕ) (xs : List ℕ) (a b : ℕ) : Type 0 where
  pub told : all (within lo hi) xs ≡ (leb lo a && leb b hi)

and_true : (b : Bool) → (b && true) ≡ b
and_true true = refl
and_true false = refl

least_test : (lo a v : ℕ) → leb lo (min a v) ≡ (leb lo a && leb lo v)
least_test lo a v = go (leb lo a) refl (leb lo v) refl
  where
    go : (s : Bool) → leb lo a ≡ s → (t : Bool) → leb lo v ≡ t → leb lo (min a v) ≡ (leb lo a && leb lo v)
    go true p true q = rw (p, q) (le-leb lo (min a v) (omega (arith, leb-true lo a p, leb-true lo v q)))
    go true p false q = rw (p, q) (lt-leb lo (min a v) (omega (arith, leb-false lo v q)))
    go false p t q = rw p (lt-leb lo (min a v) (omega (arith, leb-false lo a p)))

greatest_test : (hi b v : ℕ) → leb (max b v) hi ≡ (leb b hi && leb v hi)
greatest_test hi b v = go (leb b hi) refl (leb v hi) refl
  where
    go : (s : Bool) → leb b hi ≡ s → (t : Bool) → leb v hi ≡ t → leb (max b v) hi ≡ (leb b hi && leb v hi)
    go true p true q = rw (p, q) (le-leb (max b v) hi (omega (arith, leb-true b hi p, leb-true v hi q)))
    go true p false q = rw (p, q) (lt-leb (max b v) hi (omega (arith, leb-false v hi q)))
    go false p t q = rw p (lt-leb (max b v) hi (omega (arith, leb-false b hi p)))

crossed : (a b c d : Bool) → (a && b && (c && d)) ≡ (a && c && (b && d))
crossed true true true d = refl
crossed true true false d = refl
crossed true false true d = refl
crossed true false false d = refl
crossed false b c d = refl

within_one : (lo hi v : ℕ) → all (within lo hi) (v ∷ []) ≡ (leb lo v && leb v hi)
unfolding all within
within_one lo hi v = and_true (leb lo v && leb v hi)

-- a single entry
pub spans_one : (lo hi v : ℕ) → Spans lo hi (v ∷ []) v v
spans_one lo hi v = record { told = within_one lo hi v }

-- one entry more
pub spans_more : (lo hi v : ℕ) {ys : List ℕ} {a b : ℕ} → Spans lo hi ys a b → Spans lo hi (ys ++ v ∷ []) (min a v) (max b v)
spans_more lo hi v {ys} {a} {b} h = record { told = more }
  where
    more : all (within lo hi) (ys ++ v ∷ []) ≡ (leb lo (min a v) && leb (max b v) hi)
    more =
        all_append (within lo hi) ys (v ∷ [])
        ∙ (ap₂ (λ s t. s && t) h.told (within_one lo hi v)
        ∙ (crossed (leb lo a) (leb b hi) (leb lo v) (leb v hi)
        ∙ sym (ap₂ (λ s t. s && t) (least_test lo a v) (greatest_test hi b v))))

pub spans_next : (lo hi : ℕ) (xs : List ℕ) {i a b : ℕ} → Spans lo hi (take i xs) a b → i < length xs → Spans lo hi (take (i + 1) xs) (min a (get_or xs i 0)) (max b (get_or xs i 0))
spans_next lo hi xs {i} h l = rw (add-one, take-suc xs i 0 l) (spans_more lo hi (get_or xs i 0) h)

-- the same behind an entry at the head
pub spans_behind : (lo hi x : ℕ) (xs : List ℕ) {i a b p q : ℕ} → Spans lo hi (x ∷ take i xs) a b → i < length xs → p ≡ min a (get_or xs i 0) → q ≡ max b (get_or xs i 0) → Spans lo hi (x ∷ take (i + 1) xs) p q
spans_behind lo hi x xs {i} h l low high = rw (low, high, add-one, take-suc xs i 0 l) (spans_more lo hi (get_or xs i 0) h)

-- no entry at all
pub spans_none : (lo hi : ℕ) (xs : List ℕ) → length xs ≡ 0 → true ≡ all (within lo hi) xs
unfolding all
spans_none lo hi [] h = refl
spans_none lo hi (x ∷ xs) h = let l : length (x ∷ xs) ≤ 0 = omega (arith, h) in absurd (not-suc-le-zero l)

spans_whole : (lo hi : ℕ) (xs : List ℕ) {i a b : ℕ} → Spans lo hi (take i xs) a b → length xs ≤ i → all (within lo hi) xs ≡ (leb lo a && leb b hi)
spans_whole lo hi xs {i} h l = ap (all (within lo hi)) (sym (take_all i xs l)) ∙ h.told

-- the end of a list whose least entry is not too small: the greatest tells
pub spans_end : (lo hi : ℕ) (xs : List ℕ) {i a b : ℕ} → Spans lo hi (take i xs) a b → length xs ≤ i → lo ≤ a → leb b hi ≡ all (within lo hi) xs
spans_end lo hi xs {i} {a} {b} h l u = sym (spans_whole lo hi xs h l ∙ ap (λ s. s && leb b hi) (le-leb lo a u))
