-- Laws of refusal tables: tables one behind the other, their numbers, and what an accepting table tells.
-- Assumes nothing.
use Prim.Native.Nat.{ℕ, suc, zero}
use mathlib.Core.Bool.{Bool, true, false, not}
use mathlib.Core.List.{List, [], ◌∷◌, ◌++◌}
use mathlib.Core.Logic.{◌≢◌}
use mathlib.Core.Path.{◌≡◌, refl, sym, ap, ◌∙◌}
use native.Mathlib.Omega.{arith}
use lib.Dec.{ltb, eqb}
use borrow.Author.Tests.{ltb-true, eqb-false, not-true}
use Rattle.base_lists.specs.Lists.{all}
use Rattle.base_lists.proofs.Tabs.{and_left, and_right}
use Rattle.base_lists.proofs.Alls.{all_both}
use Rattle.base_rows.specs.Refuse.{Row, row, first, unless, None, numbers_of, Each, Numbered}

-- ---- one row

-- a row that does not apply is passed over
pub first_skip : (n : ℕ) {b : Bool} (rows : List Row) → b ≡ false → first (row n b ∷ rows) ≡ first rows
unfolding first
first_skip n rows e = rw e refl

-- a row that applies gives its number
pub first_hit : {n : ℕ} {b : Bool} (rows : List Row) → b ≡ true → first (row n b ∷ rows) ≡ n
unfolding first
first_hit rows e = rw e refl

-- ---- two tables, one behind the other

-- behind a table of which no row applies, the second decides
pub first_behind : (s t : List Row) → None s → first (s ++ t) ≡ first t
first_behind [] t h = refl
first_behind (row n b ∷ s) t h = first_skip n (s ++ t) h.0 ∙ first_behind s t h.1

-- a table that gives a number decides, whatever stands behind it
pub first_front : (s t : List Row) → first s ≢ 0 → first (s ++ t) ≡ first s
unfolding first
first_front [] t h = absurd (h refl)
first_front (row n true ∷ s) t h = refl
first_front (row n false ∷ s) t h = first_front s t h

-- ---- the numbers of a table

-- the numbers of two tables, one behind the other
pub numbers_append : (s t : List Row) → numbers_of (s ++ t) ≡ numbers_of s ++ numbers_of t
unfolding numbers_of
numbers_append [] t = refl
numbers_append (row n b ∷ s) t = ap (λ ns. n ∷ ns) (numbers_append s t)

-- what holds of the numbers of both tables holds of those of the two together
pub each_append : (p : ℕ → Bool) (s t : List Row) → Each p s → Each p t → Each p (s ++ t)
each_append p s t h k = rw (numbers_append s t) (all_both p (numbers_of s) (numbers_of t) h k)

-- what holds of each number of a table, and of 0, holds of the one that the table gives
pub each_first : (p : ℕ → Bool) (rows : List Row) → p 0 ≡ true → Each p rows → p (first rows) ≡ true
unfolding first all numbers_of
each_first p [] z h = z
each_first p (row n true ∷ rows) z h = and_left (p n) (all p (numbers_of rows)) h
each_first p (row n false ∷ rows) z h = each_first p rows z (and_right (p n) (all p (numbers_of rows)) h)

-- a number above 0 that none of a table's rows has is never given
pub first_never : (n : ℕ) (rows : List Row) → eqb 0 n ≡ false → Each (λ k. not (eqb k n)) rows → first rows ≢ n
first_never n rows z h q = eqb-false (first rows) n (not-true _ (each_first (λ k. not (eqb k n)) rows (ap not z) h)) q

-- a number that none of a table's rows has comes from the table behind it
pub only_behind : (n : ℕ) (s t : List Row) → Each (λ k. not (eqb k n)) s → first (s ++ t) ≡ n → first t ≡ n
unfolding first all numbers_of
only_behind n [] t h q = q
only_behind n (row m true ∷ s) t h q = absurd (eqb-false m n (not-true _ (and_left (not (eqb m n)) (all (λ k. not (eqb k n)) (numbers_of s)) h)) q)
only_behind n (row m false ∷ s) t h q = only_behind n s t (and_right (not (eqb m n)) (all (λ k. not (eqb k n)) (numbers_of s)) h) q

-- and from the table in front where none behind has it
pub only_front : (n : ℕ) (s t : List Row) → eqb 0 n ≡ false → Each (λ k. not (eqb k n)) t → first (s ++ t) ≡ n → first s ≡ n
unfolding first
only_front n [] t z h q = absurd (first_never n t z h q)
only_front n (row m true ∷ s) t z h q = q
only_front n (row m false ∷ s) t z h q = only_front n s t z h q

-- a table of one row gives that row's number only where the row applies
pub only_one : (n : ℕ) (b : Bool) → eqb 0 n ≡ false → first (row n b ∷ []) ≡ n → b ≡ true
unfolding first
only_one n true z q = refl
only_one n false z q = absurd (eqb-false 0 n z q)

-- ---- what an accepting table tells

-- no row applies: the table gives 0
pub none_first : (rows : List Row) → None rows → first rows ≡ 0
unfolding first
none_first [] h = refl
none_first (row n b ∷ rows) h = first_skip n rows h.0 ∙ none_first rows h.1

-- the table gives 0: no row applies
pub first_none : (rows : List Row) → Numbered rows → first rows ≡ 0 → None rows
unfolding first all numbers_of
first_none [] k e = tt
first_none (row n true ∷ rows) k e = absurd (omega (arith, ltb-true 0 n (and_left (ltb 0 n) (all (ltb 0) (numbers_of rows)) k)))
first_none (row n false ∷ rows) k e = (refl, first_none rows (and_right (ltb 0 n) (all (ltb 0) (numbers_of rows)) k) e)

-- two tables together give 0: each of them does
pub first_both : (s t : List Row) → Numbered s → first (s ++ t) ≡ 0 → (first s ≡ 0) × (first t ≡ 0)
unfolding first all numbers_of
first_both [] t k e = (refl, e)
first_both (row n true ∷ s) t k e = absurd (omega (arith, ltb-true 0 n (and_left (ltb 0 n) (all (ltb 0) (numbers_of s)) k)))
first_both (row n false ∷ s) t k e = first_both s t (and_right (ltb 0 n) (all (ltb 0) (numbers_of s)) k) e

-- no row of either table applies: none of both together
pub none_append : (s t : List Row) → None s → None t → None (s ++ t)
none_append [] t h k = k
none_append (row n b ∷ s) t h k = (h.0, none_append s t h.1 k)

-- none of both together applies: none of the first
pub none_front : (s t : List Row) → None (s ++ t) → None s
none_front [] t h = tt
none_front (row n b ∷ s) t h = (h.0, none_front s t h.1)

-- nor of the second
pub none_behind : (s t : List Row) → None (s ++ t) → None t
none_behind [] t h = h
none_behind (row n b ∷ s) t h = none_behind s t h.1

-- ---- tables one behind the other, each answered by a call of its own

-- the answer r of the table in front is the whole one's, where it is a number
pub front : (s t : List Row) {r : ℕ} → r ≡ first s → (r ≡ 0 → ⊥) → r ≡ first (s ++ t)
front s t {r} e h = e ∙ sym (first_front s t (λ z. h (e ∙ z)))

-- the table in front gives 0, so what the rest answers is the whole one's
pub behind : (s t : List Row) {r x : ℕ} → Numbered s → r ≡ first s → r ≡ 0 → x ≡ first t → x ≡ first (s ++ t)
behind s t {r} {x} k e z q = q ∙ sym (first_behind s t (first_none s k (sym e ∙ z)))

-- two tables that give the same number give the same in front of a third
pub first_same : (s t rest : List Row) → Numbered s → Numbered t → first s ≡ first t → first (s ++ rest) ≡ first (t ++ rest)
first_same s t rest k l e = go (first s) refl
  where
    go : (n : ℕ) → first s ≡ n → first (s ++ rest) ≡ first (t ++ rest)
    go zero z = first_behind s rest (first_none s k z) ∙ sym (first_behind t rest (first_none t l (sym e ∙ z)))
    go (suc n) z = first_front s rest (λ q. omega (arith, z, q)) ∙ (e ∙ sym (first_front t rest (λ q. omega (arith, z, e, q))))

-- and the same behind one, where they give the same number once it gives none
pub first_rest : (s t u : List Row) → Numbered s → (first s ≡ 0 → first t ≡ first u) → first (s ++ t) ≡ first (s ++ u)
first_rest s t u k same = go (first s) refl
  where
    go : (n : ℕ) → first s ≡ n → first (s ++ t) ≡ first (s ++ u)
    go zero z = first_behind s t (first_none s k z) ∙ (same z ∙ sym (first_behind s u (first_none s k z)))
    go (suc n) z = first_front s t (λ q. omega (arith, z, q)) ∙ sym (first_front s u (λ q. omega (arith, z, q)))

-- ---- what a number leaves

-- a number other than 0 is a refusal
pub unless_refused : {A : Type 0} (n : ℕ) (kept : ℕ → A) (done : A) → (n ≡ 0 → ⊥) → kept n ≡ unless n kept done
unless_refused zero kept done z = absurd (z refl)
unless_refused (suc n) kept done z = refl
