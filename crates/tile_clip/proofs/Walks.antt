-- Laws of one walk.
-- Assumes nothing.
use Prim.Native.Nat.{ℕ, zero, suc, ◌+◌, ◌-◌, ◌≤◌, ◌<◌}
use mathlib.Core.Bool.{Bool, true, false}
use mathlib.Core.List.{List, [], ◌∷◌}
use mathlib.Core.Logic.{◌⊎◌, inl, inr}
use mathlib.Core.Path.{◌≡◌, refl, sym, ap, ◌∙◌}
use lib.ListN.{length, get_or, set}
use native.Mathlib.Nat.{le_of_suc-le-suc, not-suc-le-zero, le_refl}
use native.Mathlib.Omega.{arith}
use borrow.Author.Tests.{lt-ltb, le-ltb}
use Rattle.base_lists.specs.Lists.{total}
use Rattle.base_lists.proofs.Orders.{lt_or_ge}
use Rattle.tile_clip.specs.Clip.{Spread, behind, walk}

-- ---- a walk, bin by bin

-- where nothing is left nothing changes
pub walk_done : (l step gap : ℕ) (cs : List ℕ) → walk l step gap cs 0 ≡ record { counts = cs; rest = 0 }
unfolding walk
walk_done l step gap [] = refl
walk_done l step gap (c ∷ cs) = refl

-- a bin is passed over
pub walk_pass : (l step gap c : ℕ) (cs : List ℕ) (r : ℕ) → 0 < gap → walk l step gap (c ∷ cs) r ≡ behind c (walk l step (gap - 1) cs r)
unfolding walk
walk_pass l step zero c cs r p = absurd (not-suc-le-zero p)
walk_pass l step (suc gap) c cs zero p = ap (behind c) (sym (walk_done l step (suc gap - 1) cs))
walk_pass l step (suc gap) c cs (suc r) p = let e : gap ≡ suc gap - 1 = omega arith in ap (λ k. behind c (walk l step k cs (suc r))) e

-- what the walk makes of a bin, by the test of the limit
abbrev chosen : Spread → Spread → Bool → Spread
chosen x y t = elim t [ true ↦ x | false ↦ y ]

-- "a bin under L gains one and r loses one"
pub walk_under : (l step c : ℕ) (cs : List ℕ) (r : ℕ) → c < l → walk l step 0 (c ∷ cs) (suc r) ≡ behind (c + 1) (walk l step (step - 1) cs r)
unfolding walk
walk_under l step c cs r u = ap (chosen (behind (c + 1) (walk l step (step - 1) cs r)) (behind c (walk l step (step - 1) cs (suc r)))) (lt-ltb c l u)

-- a bin that is not under the limit stays
pub walk_over : (l step c : ℕ) (cs : List ℕ) (r : ℕ) → l ≤ c → walk l step 0 (c ∷ cs) (suc r) ≡ behind c (walk l step (step - 1) cs (suc r))
unfolding walk
walk_over l step c cs r u = ap (chosen (behind (c + 1) (walk l step (step - 1) cs r)) (behind c (walk l step (step - 1) cs (suc r)))) (le-ltb c l u)

-- a walk over full bins changes nothing
pub walk_full : (l step gap : ℕ) (cs : List ℕ) (r : ℕ) → ((i : ℕ) → gap ≤ i → i < length cs → l ≤ get_or cs i 0)
    → walk l step gap cs r ≡ record { counts = cs; rest = r }
unfolding walk
walk_full l step gap [] r f = refl
walk_full l step gap (c ∷ cs) zero f = refl
walk_full l step (suc gap) (c ∷ cs) (suc r) f = ap (behind c) (walk_full l step gap cs (suc r) (λ i h k. f (suc i) (omega arith) (omega arith)))
walk_full l step zero (c ∷ cs) (suc r) f =
    walk_over l step c cs r (f 0 (omega arith) (omega arith))
    ∙ ap (behind c) (walk_full l step (step - 1) cs (suc r) (λ i h k. f (suc i) (omega arith) (omega arith)))

-- the bin at the walk's place is under the limit: the walk goes on from the next place, with one less left
pub walk_gain : (l step at : ℕ) (cs : List ℕ) (r : ℕ) → 0 < step → at < length cs → get_or cs at 0 < l
    → walk l step at cs (suc r) ≡ walk l step (at + step) (set cs at (get_or cs at 0 + 1)) r
walk_gain l step at [] r p h u = absurd (not-suc-le-zero h)
walk_gain l step zero (c ∷ cs) r p h u =
    let e : zero + step - 1 ≡ step - 1 = omega arith in
    walk_under l step c cs r u ∙ sym (walk_pass l step (zero + step) (c + 1) cs r (omega arith) ∙ ap (λ k. behind (c + 1) (walk l step k cs r)) e)
walk_gain l step (suc at) (c ∷ cs) r p h u =
    let e : suc at + step - 1 ≡ at + step = omega arith in
    let f : suc at - 1 ≡ at = omega arith in
    walk_pass l step (suc at) c cs (suc r) (omega arith)
    ∙ (ap (λ k. behind c (walk l step k cs (suc r))) f
    ∙ (ap (behind c) (walk_gain l step at cs r p (le_of_suc-le-suc h) u)
    ∙ sym (walk_pass l step (suc at + step) c (set cs at (get_or cs at 0 + 1)) r (omega arith)
    ∙ ap (λ k. behind c (walk l step k (set cs at (get_or cs at 0 + 1)) r)) e)))

-- the bin at the walk's place is at the limit: the walk goes on from the next place
pub walk_skip : (l step at : ℕ) (cs : List ℕ) (r : ℕ) → 0 < step → at < length cs → l ≤ get_or cs at 0
    → walk l step at cs (suc r) ≡ walk l step (at + step) cs (suc r)
walk_skip l step at [] r p h u = absurd (not-suc-le-zero h)
walk_skip l step zero (c ∷ cs) r p h u =
    let e : zero + step - 1 ≡ step - 1 = omega arith in
    walk_over l step c cs r u
    ∙ sym (walk_pass l step (zero + step) c cs (suc r) (omega arith) ∙ ap (λ k. behind c (walk l step k cs (suc r))) e)
walk_skip l step (suc at) (c ∷ cs) r p h u =
    let e : suc at + step - 1 ≡ at + step = omega arith in
    let f : suc at - 1 ≡ at = omega arith in
    walk_pass l step (suc at) c cs (suc r) (omega arith)
    ∙ (ap (λ k. behind c (walk l step k cs (suc r))) f
    ∙ (ap (behind c) (walk_skip l step at cs r p (le_of_suc-le-suc h) u)
    ∙ sym (walk_pass l step (suc at + step) c cs (suc r) (omega arith) ∙ ap (λ k. behind c (walk l step k cs (suc r))) e)))

-- ---- a walk as a whole

-- a walk keeps the number of bins
pub length_walk : (l step gap : ℕ) (cs : List ℕ) (r : ℕ) → length (walk l step gap cs r).counts ≡ length cs
unfolding walk
length_walk l step gap [] r = refl
length_walk l step gap (c ∷ cs) zero = refl
length_walk l step (suc gap) (c ∷ cs) (suc r) = ap suc (length_walk l step gap cs (suc r))
length_walk l step zero (c ∷ cs) (suc r) = go (length_walk l step (step - 1) cs r) (length_walk l step (step - 1) cs (suc r)) (lt_or_ge c l)
  where
    go : length (walk l step (step - 1) cs r).counts ≡ length cs → length (walk l step (step - 1) cs (suc r)).counts ≡ length cs
        → (c < l) ⊎ (l ≤ c) → length (walk l step zero (c ∷ cs) (suc r)).counts ≡ suc (length cs)
    go p q (inl u) = rw (walk_under l step c cs r u) (ap suc p)
    go p q (inr u) = rw (walk_over l step c cs r u) (ap suc q)

-- what the bins gain is what r loses
pub total_walk : (l step gap : ℕ) (cs : List ℕ) (r : ℕ) → total (walk l step gap cs r).counts + (walk l step gap cs r).rest ≡ total cs + r
unfolding walk total
total_walk l step gap [] r = refl
total_walk l step gap (c ∷ cs) zero = refl
total_walk l step (suc gap) (c ∷ cs) (suc r) = omega (arith, total_walk l step gap cs (suc r))
total_walk l step zero (c ∷ cs) (suc r) = go (total_walk l step (step - 1) cs r) (total_walk l step (step - 1) cs (suc r)) (lt_or_ge c l)
  where
    go : total (walk l step (step - 1) cs r).counts + (walk l step (step - 1) cs r).rest ≡ total cs + r
        → total (walk l step (step - 1) cs (suc r)).counts + (walk l step (step - 1) cs (suc r)).rest ≡ total cs + suc r → (c < l) ⊎ (l ≤ c)
        → total (walk l step zero (c ∷ cs) (suc r)).counts + (walk l step zero (c ∷ cs) (suc r)).rest ≡ c + total cs + suc r
    go p q (inl u) = rw (walk_under l step c cs r u) (omega arith)
    go p q (inr u) = rw (walk_over l step c cs r u) (omega arith)

-- a walk never adds to what is left
pub walk_rest : (l step gap : ℕ) (cs : List ℕ) (r : ℕ) → (walk l step gap cs r).rest ≤ r
unfolding walk
walk_rest l step gap [] r = le_refl r
walk_rest l step gap (c ∷ cs) zero = omega arith
walk_rest l step (suc gap) (c ∷ cs) (suc r) = walk_rest l step gap cs (suc r)
walk_rest l step zero (c ∷ cs) (suc r) = go (walk_rest l step (step - 1) cs r) (walk_rest l step (step - 1) cs (suc r)) (lt_or_ge c l)
  where
    go : (walk l step (step - 1) cs r).rest ≤ r → (walk l step (step - 1) cs (suc r)).rest ≤ suc r → (c < l) ⊎ (l ≤ c)
        → (walk l step zero (c ∷ cs) (suc r)).rest ≤ suc r
    go p q (inl u) = rw (walk_under l step c cs r u) (omega arith)
    go p q (inr u) = rw (walk_over l step c cs r u) q

-- a walk that hands nothing out changes no bin
pub walk_kept : (l step gap : ℕ) (cs : List ℕ) (r : ℕ) → r ≤ (walk l step gap cs r).rest → (walk l step gap cs r).counts ≡ cs
unfolding walk
walk_kept l step gap [] r h = refl
walk_kept l step gap (c ∷ cs) zero h = refl
walk_kept l step (suc gap) (c ∷ cs) (suc r) h = ap (λ t. c ∷ t) (walk_kept l step gap cs (suc r) h)
walk_kept l step zero (c ∷ cs) (suc r) h = go (walk_rest l step (step - 1) cs r) (walk_kept l step (step - 1) cs (suc r)) (lt_or_ge c l) h
  where
    go : (walk l step (step - 1) cs r).rest ≤ r → (suc r ≤ (walk l step (step - 1) cs (suc r)).rest → (walk l step (step - 1) cs (suc r)).counts ≡ cs)
        → (c < l) ⊎ (l ≤ c) → suc r ≤ (walk l step zero (c ∷ cs) (suc r)).rest → (walk l step zero (c ∷ cs) (suc r)).counts ≡ c ∷ cs
    go p q (inl u) k = let m : suc r ≤ (walk l step (step - 1) cs r).rest = rw (walk_under l step c cs r u) at k in absurd (omega arith)
    go p q (inr u) k =
        let m : suc r ≤ (walk l step (step - 1) cs (suc r)).rest = rw (walk_over l step c cs r u) at k in
        rw (walk_over l step c cs r u) (ap (λ t. c ∷ t) (q m))

-- the walk's first bin gains where it is under the limit
pub walk_hands : (l step at : ℕ) (cs : List ℕ) (r : ℕ) → 0 < step → at < length cs → get_or cs at 0 < l → (walk l step at cs (suc r)).rest ≤ r
walk_hands l step at cs r p h u = rw (walk_gain l step at cs r p h u) (walk_rest l step (at + step) (set cs at (get_or cs at 0 + 1)) r)

-- no bin loses
pub walk_grows : (l step gap : ℕ) (cs : List ℕ) (r i : ℕ) → get_or cs i 0 ≤ get_or (walk l step gap cs r).counts i 0
unfolding walk
walk_grows l step gap [] r i = le_refl 0
walk_grows l step gap (c ∷ cs) zero i = le_refl (get_or (c ∷ cs) i 0)
walk_grows l step (suc gap) (c ∷ cs) (suc r) zero = le_refl c
walk_grows l step (suc gap) (c ∷ cs) (suc r) (suc i) = walk_grows l step gap cs (suc r) i
walk_grows l step zero (c ∷ cs) (suc r) zero = go (lt_or_ge c l)
  where
    go : (c < l) ⊎ (l ≤ c) → c ≤ get_or (walk l step zero (c ∷ cs) (suc r)).counts zero 0
    go (inl u) = rw (walk_under l step c cs r u) (omega arith)
    go (inr u) = rw (walk_over l step c cs r u) (le_refl c)
walk_grows l step zero (c ∷ cs) (suc r) (suc i) = go (walk_grows l step (step - 1) cs r i) (walk_grows l step (step - 1) cs (suc r) i) (lt_or_ge c l)
  where
    go : get_or cs i 0 ≤ get_or (walk l step (step - 1) cs r).counts i 0 → get_or cs i 0 ≤ get_or (walk l step (step - 1) cs (suc r)).counts i 0
        → (c < l) ⊎ (l ≤ c) → get_or cs i 0 ≤ get_or (walk l step zero (c ∷ cs) (suc r)).counts (suc i) 0
    go p q (inl u) = rw (walk_under l step c cs r u) p
    go p q (inr u) = rw (walk_over l step c cs r u) q

-- no bin passes the limit
pub walk_most : (l step gap : ℕ) (cs : List ℕ) (r i : ℕ) → get_or cs i 0 ≤ l → get_or (walk l step gap cs r).counts i 0 ≤ l
unfolding walk
walk_most l step gap [] r i h = h
walk_most l step gap (c ∷ cs) zero i h = h
walk_most l step (suc gap) (c ∷ cs) (suc r) zero h = h
walk_most l step (suc gap) (c ∷ cs) (suc r) (suc i) h = walk_most l step gap cs (suc r) i h
walk_most l step zero (c ∷ cs) (suc r) zero h = go (lt_or_ge c l)
  where
    go : (c < l) ⊎ (l ≤ c) → get_or (walk l step zero (c ∷ cs) (suc r)).counts zero 0 ≤ l
    go (inl u) = rw (walk_under l step c cs r u) (omega arith)
    go (inr u) = rw (walk_over l step c cs r u) h
walk_most l step zero (c ∷ cs) (suc r) (suc i) h = go (walk_most l step (step - 1) cs r i h) (walk_most l step (step - 1) cs (suc r) i h) (lt_or_ge c l)
  where
    go : get_or (walk l step (step - 1) cs r).counts i 0 ≤ l → get_or (walk l step (step - 1) cs (suc r)).counts i 0 ≤ l → (c < l) ⊎ (l ≤ c)
        → get_or (walk l step zero (c ∷ cs) (suc r)).counts (suc i) 0 ≤ l
    go p q (inl u) = rw (walk_under l step c cs r u) p
    go p q (inr u) = rw (walk_over l step c cs r u) q
