-- A walk over bins that lie one behind the other: over the first part, and then, with what is left and from the place that comes next, over the second.
-- Over a part whose bins are all under the limit it hands out one at each place it meets.
-- Assumes nothing.
use Prim.Native.Nat.{ℕ, zero, suc, ◌+◌, ◌-◌, ◌*◌, ◌/◌, ◌≤◌, ◌<◌}
use mathlib.Core.List.{List, [], ◌∷◌, ◌++◌}
use mathlib.Core.Logic.{◌⊎◌, inl, inr}
use mathlib.Core.Path.{◌≡◌, refl, sym, ap, ap₂, ◌∙◌}
use lib.ListN.{length, get_or, set}
use native.Mathlib.Nat.{le_refl, le_of_suc-le-suc, not-suc-le-zero, div-eq_of_lt, mul-suc, mul-zero}
use native.Mathlib.Omega.{arith}
use Rattle.base_lists.proofs.Orders.{lt_or_ge}
use Rattle.tile_clip.specs.Clip.{Spread, behind, walk}
use Rattle.tile_clip.specs.Looks.{apart}
use Rattle.tile_clip.specs.Spans.{on_to}
use Rattle.tile_clip.specs.Asks.{gain}
use Rattle.tile_clip.proofs.Walks.{walk_done, walk_under, walk_over, walk_gain, walk_skip, walk_full}
use Rattle.tile_clip.proofs.Looked.{apart_on}
use Rattle.tile_clip.proofs.Whole.{gain_under, gain_over}

-- ---- where a walk goes on behind n bins

-- behind no bin
on_none : (step gap : ℕ) → 0 < step → on_to step gap 0 ≡ gap
on_none step gap p =
    let a : 0 - gap + (step - 1) ≡ step - 1 = omega arith in
    let b : apart step (0 - gap) ≡ 0 = ap (λ k. k / step) a ∙ div-eq_of_lt (omega arith) in
    let c : step * apart step (0 - gap) ≡ 0 = ap (λ k. step * k) b ∙ mul-zero step in
    omega (arith, c)

-- behind a bin that is passed over
on_pass : (step gap n : ℕ) → on_to step (suc gap) (suc n) ≡ on_to step gap n
on_pass step gap n =
    let a : suc n - suc gap ≡ n - gap = omega arith in
    let b : step * apart step (suc n - suc gap) ≡ step * apart step (n - gap) = ap (λ k. step * apart step k) a in
    omega (arith, b)

-- behind a bin that is looked at
on_look : (step n : ℕ) → 0 < step → on_to step 0 (suc n) ≡ on_to step (step - 1) n
on_look step n p =
    let a : step * apart step (suc n - 0) ≡ step * suc (apart step (n - (step - 1))) = ap (λ k. step * k) (sym (apart_on n step p)) in
    omega (arith, a, mul-suc step (apart step (n - (step - 1))))

-- ---- two parts

-- what a walk leaves of the first part, with what it leaves of the second
abbrev pub along : Spread → Spread → Spread
along v w = record { counts = v.counts ++ w.counts; rest = w.rest }

-- the second part, walked with what the first left
abbrev then : ℕ → ℕ → List ℕ → Spread → ℕ → Spread
then l step ys v gap = along v (walk l step gap ys v.rest)

pub walk_parts : (l step gap : ℕ) (xs ys : List ℕ) (r : ℕ) → 0 < step
    → walk l step gap (xs ++ ys) r ≡ along (walk l step gap xs r) (walk l step (on_to step gap (length xs)) ys (walk l step gap xs r).rest)
unfolding walk
walk_parts l step gap [] ys r p = ap (λ k. walk l step k ys r) (sym (on_none step gap p))
walk_parts l step gap (c ∷ cs) ys zero p = ap (along (record { counts = c ∷ cs; rest = 0 })) (sym (walk_done l step (on_to step gap (suc (length cs))) ys))
walk_parts l step (suc gap) (c ∷ cs) ys (suc r) p =
    ap (behind c) (walk_parts l step gap cs ys (suc r) p)
    ∙ ap (then l step ys (behind c (walk l step gap cs (suc r)))) (sym (on_pass step gap (length cs)))
walk_parts l step zero (c ∷ cs) ys (suc r) p =
    go (walk_parts l step (step - 1) cs ys r p) (walk_parts l step (step - 1) cs ys (suc r) p) (lt_or_ge c l)
  where
    go : walk l step (step - 1) (cs ++ ys) r ≡ then l step ys (walk l step (step - 1) cs r) (on_to step (step - 1) (length cs))
        → walk l step (step - 1) (cs ++ ys) (suc r) ≡ then l step ys (walk l step (step - 1) cs (suc r)) (on_to step (step - 1) (length cs))
        → (c < l) ⊎ (l ≤ c)
        → walk l step zero (c ∷ (cs ++ ys)) (suc r) ≡ then l step ys (walk l step zero (c ∷ cs) (suc r)) (on_to step zero (suc (length cs)))
    go a b (inl u) =
        walk_under l step c (cs ++ ys) r u
        ∙ (ap (behind (c + 1)) a ∙ sym (ap₂ (then l step ys) (walk_under l step c cs r u) (on_look step (length cs) p)))
    go a b (inr u) =
        walk_over l step c (cs ++ ys) r u
        ∙ (ap (behind c) b ∙ sym (ap₂ (then l step ys) (walk_over l step c cs r u) (on_look step (length cs) p)))

-- ---- a part whose bins are all under the limit

-- it takes one for each place that the walk meets
pub open_rest : (l step gap : ℕ) (cs : List ℕ) (r : ℕ) → 0 < step → ((i : ℕ) → i < length cs → get_or cs i 0 < l)
    → (walk l step gap cs r).rest ≡ r - apart step (length cs - gap)
unfolding walk
open_rest l step gap [] r p f =
    let a : 0 - gap + (step - 1) ≡ step - 1 = omega arith in
    let b : apart step (0 - gap) ≡ 0 = ap (λ k. k / step) a ∙ div-eq_of_lt (omega arith) in
    omega (arith, b)
open_rest l step gap (c ∷ cs) zero p f = omega arith
open_rest l step (suc gap) (c ∷ cs) (suc r) p f =
    let a : length cs - gap ≡ suc (length cs) - suc gap = omega arith in
    open_rest l step gap cs (suc r) p (λ i h. f (suc i) (omega arith)) ∙ ap (λ k. suc r - apart step k) a
open_rest l step zero (c ∷ cs) (suc r) p f =
    let u : c < l = f 0 (omega arith) in
    ap (λ w. w.rest) (walk_under l step c cs r u)
    ∙ omega (arith, open_rest l step (step - 1) cs r p (λ i h. f (suc i) (omega arith)), apart_on (length cs) step p)

-- no walk adds more than one to a bin
pub walk_once : (l step gap : ℕ) (cs : List ℕ) (r i : ℕ) → get_or (walk l step gap cs r).counts i 0 ≤ get_or cs i 0 + 1
unfolding walk
walk_once l step gap [] r i = omega arith
walk_once l step gap (c ∷ cs) zero i = omega arith
walk_once l step (suc gap) (c ∷ cs) (suc r) zero = omega arith
walk_once l step (suc gap) (c ∷ cs) (suc r) (suc i) = walk_once l step gap cs (suc r) i
walk_once l step zero (c ∷ cs) (suc r) zero = go (lt_or_ge c l)
  where
    go : (c < l) ⊎ (l ≤ c) → get_or (walk l step zero (c ∷ cs) (suc r)).counts zero 0 ≤ c + 1
    go (inl u) = rw (walk_under l step c cs r u) (le_refl (c + 1))
    go (inr u) = rw (walk_over l step c cs r u) (omega arith)
walk_once l step zero (c ∷ cs) (suc r) (suc i) = go (walk_once l step (step - 1) cs r i) (walk_once l step (step - 1) cs (suc r) i) (lt_or_ge c l)
  where
    go : get_or (walk l step (step - 1) cs r).counts i 0 ≤ get_or cs i 0 + 1 → get_or (walk l step (step - 1) cs (suc r)).counts i 0 ≤ get_or cs i 0 + 1
        → (c < l) ⊎ (l ≤ c) → get_or (walk l step zero (c ∷ cs) (suc r)).counts (suc i) 0 ≤ get_or cs i 0 + 1
    go p q (inl u) = rw (walk_under l step c cs r u) p
    go p q (inr u) = rw (walk_over l step c cs r u) q

-- ---- a walk as the code makes it

-- a bin that gets what it has stays
set_own : (cs : List ℕ) (i : ℕ) → i < length cs → set cs i (get_or cs i 0) ≡ cs
set_own [] i h = absurd (not-suc-le-zero h)
set_own (c ∷ cs) zero h = refl
set_own (c ∷ cs) (suc i) h = ap (λ t. c ∷ t) (set_own cs i (le_of_suc-le-suc h))

-- a look at the bin at the walk's place
look : (l step i : ℕ) (cs : List ℕ) (r : ℕ) → 0 < r → 0 < step → i < length cs
    → walk l step i cs r ≡ walk l step (i + step) (set cs i (get_or cs i 0 + gain l (get_or cs i 0))) (r - gain l (get_or cs i 0))
look l step i cs zero s p h = absurd (not-suc-le-zero s)
look l step i cs (suc r) s p h = go (lt_or_ge (get_or cs i 0) l)
  where
    go : (get_or cs i 0 < l) ⊎ (l ≤ get_or cs i 0)
        → walk l step i cs (suc r) ≡ walk l step (i + step) (set cs i (get_or cs i 0 + gain l (get_or cs i 0))) (suc r - gain l (get_or cs i 0))
    go (inl u) =
        let e : r ≡ suc r - 1 = omega arith in
        rw (gain_under l (get_or cs i 0) u) (walk_gain l step i cs r p h u ∙ ap (walk l step (i + step) (set cs i (get_or cs i 0 + 1))) e)
    go (inr u) =
        let e : get_or cs i 0 ≡ get_or cs i 0 + 0 = omega arith in
        let z : suc r ≡ suc r - 0 = omega arith in
        rw (gain_over l (get_or cs i 0) u)
        (walk_skip l step i cs r p h u ∙ ap₂ (walk l step (i + step)) (sym (set_own cs i h) ∙ ap (set cs i) e) z)

-- what was to be done at first is still to be done from the next place on; n is what the bin gains
pub walk_look : (l step i : ℕ) (cs : List ℕ) (r : ℕ) {n : ℕ} {w : Spread} → 0 < r → 0 < step → i < length cs → n ≡ gain l (get_or cs i 0) → walk l step i cs r ≡ w
    → walk l step (i + step) (set cs i (get_or cs i 0 + n)) (r - n) ≡ w
walk_look l step i cs r s p h e q = ap (λ n. walk l step (i + step) (set cs i (get_or cs i 0 + n)) (r - n)) e ∙ (sym (look l step i cs r s p h) ∙ q)

-- it is done where nothing is left, and behind the last bin
pub walk_ends : (l step i : ℕ) {cs : List ℕ} {r : ℕ} {w : Spread} → (r ≡ 0) ⊎ (length cs ≤ i) → walk l step i cs r ≡ w → (cs ≡ w.counts) × (r ≡ w.rest)
walk_ends l step i {cs} {r} h q = let d = sym (go h) ∙ q in (ap (λ v. v.counts) d, ap (λ v. v.rest) d)
  where
    go : (r ≡ 0) ⊎ (length cs ≤ i) → walk l step i cs r ≡ record { counts = cs; rest = r }
    go (inl z) = ap (walk l step i cs) z ∙ (walk_done l step i cs ∙ ap (λ n. record { counts = cs; rest = n }) (sym z))
    go (inr p) = walk_full l step i cs r (λ j a b. absurd (omega arith))
