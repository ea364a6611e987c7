-- P exists and is the largest; the new total; each bin.
-- Assumes nothing.
use Prim.Native.Nat.{ℕ, zero, suc, ◌+◌, ◌-◌, ◌*◌, ◌≤◌, ◌<◌, min}
use mathlib.Core.Bool.{Bool, true, false}
use mathlib.Core.List.{List, [], ◌∷◌, map}
use mathlib.Core.Logic.{◌⊎◌, inl, inr}
use mathlib.Core.Path.{◌≡◌, refl, sym, ap, ◌∙◌}
use lib.Dec.{ltb}
use lib.ListN.{length, length-map, get_or}
use native.Mathlib.Nat.{suc-mul, zero-mul, mul_comm, mul-add, le_refl, mul-one, mul-zero}
use native.Mathlib.Omega.{arith}
use borrow.Author.Tests.{lt-ltb, le-ltb, le-leb, leb-true, leb-false, ltb-true, ltb-false}
use Rattle.base_lists.specs.Lists.{total}
use Rattle.base_lists.proofs.Orders.{lt_or_ge}
use Rattle.base_lists.proofs.Totals.{get_or_map_lt, get_or_map_le}
use Rattle.tile_clip.specs.Clip.{excess}
use Rattle.tile_clip.proofs.Shares.{excess_none, excess_bin}
use Rattle.tile_clip1986.specs.Older.{levels, level_from, level_of, raised, older, OlderAsks, LiftAsks}

-- ---- P

-- what stands above a level one higher is no more
excess_less : (p : ℕ) (cs : List ℕ) → excess (p + 1) cs ≤ excess p cs
excess_less p [] = omega (arith, excess_none (p + 1))
excess_less p (c ∷ cs) = omega (arith, excess_bin (p + 1) c cs, excess_bin p c cs, excess_less p cs)

-- above 0 stands everything
pub excess_all : (cs : List ℕ) → excess 0 cs ≡ total cs
unfolding total
excess_all [] = excess_none 0
excess_all (c ∷ cs) = omega (arith, excess_bin 0 c cs, excess_all cs)

-- "P exists": 0 levels where C has room for the pixels
pub levels_none : (c : ℕ) (cs : List ℕ) → total cs ≤ c * length cs → levels c cs 0 ≡ true
levels_none c cs h = le-leb (excess 0 cs) (length cs * (c - 0)) (omega (arith, excess_all cs, mul_comm c (length cs), ap (λ k. length cs * k) (let z : c - 0 ≡ c = omega arith in z)))

-- a number that levels, with none above it that does, is the largest
level_from_lem : (n c p : ℕ) (cs : List ℕ) → p ≤ n → levels c cs p ≡ true → ((q : ℕ) → p < q → q ≤ n → levels c cs q ≡ false) → level_from n c cs ≡ p
unfolding level_from
level_from_lem zero c p cs l e a = omega arith
level_from_lem (suc n) c p cs l e a = go (λ h. level_from_lem n c p cs h e (λ q x y. a q x (omega arith))) (ltb n p) refl
  where
    go : (p ≤ n → level_from n c cs ≡ p) → (b : Bool) → ltb n p ≡ b → elim (levels c cs (suc n)) [ true ↦ suc n | false ↦ level_from n c cs ] ≡ p
    go ih true q = let z : p ≡ suc n = omega (arith, ltb-true n p q) in let f : levels c cs (suc n) ≡ true = rw z at e in rw f (sym z)
    go ih false q = rw (a (suc n) (omega (arith, ltb-false n p q)) (le_refl (suc n))) (ih (ltb-false n p q))

pub level_is : (c p : ℕ) (cs : List ℕ) → p ≤ c → levels c cs p ≡ true → ((q : ℕ) → p < q → q ≤ c → levels c cs q ≡ false) → level_of c cs ≡ p
unfolding level_of
level_is c p cs l e a = level_from_lem c c p cs l e a

-- what the largest number up to n is: one of them, that levels where 0 does, and none above it does
pub record Largest (n c : ℕ) (cs : List ℕ) (p : ℕ) : Type 0 where
  pub most : p ≤ n
  pub fits : levels c cs p ≡ true
  pub above : (q : ℕ) → p < q → q ≤ n → levels c cs q ≡ false

largest_from : (n c : ℕ) (cs : List ℕ) → levels c cs 0 ≡ true → Largest n c cs (level_from n c cs)
unfolding level_from
largest_from zero c cs e = record { most = omega arith; fits = e; above = λ q l m. absurd (omega arith) }
largest_from (suc n) c cs e = go (levels c cs (suc n)) refl (largest_from n c cs e)
  where
    go : (b : Bool) → levels c cs (suc n) ≡ b → Largest n c cs (level_from n c cs) → Largest (suc n) c cs (elim b [ true ↦ suc n | false ↦ level_from n c cs ])
    go true q x = record { most = le_refl (suc n); fits = q; above = λ k l m. absurd (omega arith) }
    go false q x =
        record {
          most = omega (arith, x.most);
          fits = x.fits;
          above = λ k l m. at k l (lt_or_ge n k) m;
        }
      where
        at : (k : ℕ) → level_from n c cs < k → (n < k) ⊎ (k ≤ n) → k ≤ suc n → levels c cs k ≡ false
        at k l (inl u) m = let z : k ≡ suc n = omega arith in rw z q
        at k l (inr u) m = x.above k l u

-- "P is the largest whole number from 0 to C for which .."
pub level_largest : (c : ℕ) (cs : List ℕ) → total cs ≤ c * length cs → Largest c c cs (level_of c cs)
unfolding level_of
level_largest c cs h = largest_from c c cs (levels_none c cs h)

-- ---- the raised counts

-- what a bin becomes, and what stood above P, are its count and C - P
raised_kept : (c p x : ℕ) → p ≤ c → raised c p x + (x - p) ≡ x + (c - p)
raised_kept c p x l = go (lt_or_ge x p)
  where
    go : (x < p) ⊎ (p ≤ x) → raised c p x + (x - p) ≡ x + (c - p)
    go (inl u) = rw (lt-ltb x p u) (omega arith)
    go (inr u) = rw (le-ltb x p u) (omega arith)

raised_total : (c p : ℕ) (cs : List ℕ) → p ≤ c → total (map (raised c p) cs) + excess p cs ≡ total cs + length cs * (c - p)
unfolding total
raised_total c p [] l = omega (arith, excess_none p, zero-mul (c - p))
raised_total c p (x ∷ cs) l = omega (arith, excess_bin p x cs, raised_kept c p x l, raised_total c p cs l, suc-mul (length cs) (c - p))

-- "no bin is above C or below the smaller of C and its count plus C - P": it is that very number
pub raised_is : (c p x : ℕ) → p ≤ c → raised c p x ≡ min c (x + (c - p))
raised_is c p x l = go (lt_or_ge x p)
  where
    go : (x < p) ⊎ (p ≤ x) → raised c p x ≡ min c (x + (c - p))
    go (inl u) = rw (lt-ltb x p u) (omega arith)
    go (inr u) = rw (le-ltb x p u) (omega arith)

-- "T is at least N and less than N + B", of a level with none above it
raised_between : (c p : ℕ) (cs : List ℕ) → p ≤ c → 0 < length cs → levels c cs p ≡ true → (p < c → levels c cs (p + 1) ≡ false)
    → (total cs ≤ total (map (raised c p) cs)) × (total (map (raised c p) cs) < total cs + length cs)
raised_between c p cs l n e a =
    let t : total (map (raised c p) cs) + excess p cs ≡ total cs + length cs * (c - p) = raised_total c p cs l in
    (omega (arith, leb-true (excess p cs) (length cs * (c - p)) e), more t (lt_or_ge p c))
  where
    more : total (map (raised c p) cs) + excess p cs ≡ total cs + length cs * (c - p) → (p < c) ⊎ (c ≤ p) → total (map (raised c p) cs) < total cs + length cs
    more t (inl u) =
        let d : c - p ≡ c - (p + 1) + 1 = omega arith in
        let f : length cs * (c - p) ≡ length cs * (c - (p + 1)) + length cs * 1 = ap (λ k. length cs * k) d ∙ mul-add (length cs) (c - (p + 1)) 1 in
        let s : excess (p + 1) cs ≤ excess p cs = excess_less p cs in
        omega (arith, leb-false (excess (p + 1) cs) (length cs * (c - (p + 1))) (a u), mul-one (length cs))
    more t (inr u) = let z : length cs * (c - p) ≡ length cs * 0 = ap (λ k. length cs * k) (let y : c - p ≡ 0 = omega arith in y) in omega (arith, mul-zero (length cs))

-- ---- the counts by the rule of 1986

-- as many as before
pub length_older : (c : ℕ) (cs : List ℕ) → length (older c cs) ≡ length cs
unfolding older
length_older c cs = length-map cs (raised c (level_of c cs))

-- P is at most C, whatever the counts
level_most : (n c : ℕ) (cs : List ℕ) → level_from n c cs ≤ n
unfolding level_from
level_most zero c cs = le_refl 0
level_most (suc n) c cs = go (levels c cs (suc n)) (level_most n c cs)
  where
    go : (b : Bool) → level_from n c cs ≤ n → elim b [ true ↦ suc n | false ↦ level_from n c cs ] ≤ suc n
    go true h = le_refl (suc n)
    go false h = omega arith

-- "no bin is above C"
pub older_most : (c : ℕ) (cs : List ℕ) (i : ℕ) → get_or (older c cs) i 0 ≤ c
unfolding older level_of
older_most c cs i = get_or_map_le (raised c (level_from c c cs)) c (λ x. omega (arith, raised_is c (level_from c c cs) x (level_most c c cs))) cs i

-- "T is at least N and less than N + B"
pub older_between : (c : ℕ) (cs : List ℕ) → 0 < length cs → total cs ≤ c * length cs → (total cs ≤ total (older c cs)) × (total (older c cs) < total cs + length cs)
unfolding older
older_between c cs n h =
    let x = level_largest c cs h in
    raised_between c (level_of c cs) cs x.most n x.fits (λ u. x.above (level_of c cs + 1) (omega arith) (omega arith))

-- each bin is "the smaller of C and its count plus C - P"
pub older_is : (c : ℕ) (cs : List ℕ) → total cs ≤ c * length cs → (i : ℕ) → i < length cs
    → get_or (older c cs) i 0 ≡ min c (get_or cs i 0 + (c - level_of c cs))
unfolding older
older_is c cs h i l = get_or_map_lt (raised c (level_of c cs)) cs i l ∙ raised_is c (level_of c cs) (get_or cs i 0) (level_largest c cs h).most

-- ---- the steps of `raise`

-- what laying the raised counts down asks
pub lift_asks : {c p : ℕ} {cs : List ℕ} → OlderAsks c cs → p ≡ level_of c cs → LiftAsks c p cs
unfolding older
lift_asks {c} {p} {cs} asks e =
    let x = level_largest c cs asks.holds in
    let y = older_between c cs asks.some_bin asks.holds in
    rw e (record { most = x.most; small = omega (arith, y.1, asks.few_pixels, asks.few_bins) })

-- what comes of it
pub older_lifts : (c : ℕ) (cs : List ℕ) {p t : ℕ} {ds : List ℕ} → p ≡ level_of c cs → (ds ≡ map (raised c p) cs) × (t ≡ total (map (raised c p) cs)) → (ds ≡ older c cs) × (t ≡ total (older c cs))
unfolding older
older_lifts c cs e h = rw (← e) h
