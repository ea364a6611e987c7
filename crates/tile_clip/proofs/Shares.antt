-- Laws of the excess and of the even share.
-- Assumes nothing.
use Prim.Native.Nat.{ℕ, zero, suc, ◌+◌, ◌-◌, ◌*◌, ◌/◌, ◌≤◌, ◌<◌, min}
use mathlib.Core.List.{List, [], ◌∷◌, map}
use mathlib.Core.Logic.{◌⊎◌, inl, inr, ⊎_elim}
use mathlib.Core.Path.{◌≡◌, refl, ap, ap₂, ◌∙◌}
use lib.ListN.{length, length-map, get_or, drop}
use lib.Seq.{drop-cons}
use native.Mathlib.Nat.{le_of_suc-le-suc, not-suc-le-zero, le_refl, mul-suc, mul_comm, div-mul-le_self, div-le_self, div-le_of_le-mul}
use native.Mathlib.Numerals.{add-one}
use native.Mathlib.Omega.{arith}
use borrow.Author.Tests.{lt-ltb, le-ltb}
use Rattle.std.specs.List.{sum_by}
use Rattle.std.proofs.lemmas.List.Recursion.{is_sum_by}
use Rattle.base_lists.specs.Lists.{total}
use Rattle.base_lists.proofs.Orders.{lt_or_ge}
use Rattle.tile_clip.specs.Clip.{excess, share, shared, taken, left, starts, clipped}
use Rattle.tile_clip.specs.Looks.{looks_from, looks_of, spent_as, spent_of}
use Rattle.tile_clip.specs.Asks.{ClipAsks, PassAsks, Passed, WalkAsks, Walked}

-- ---- one bin

-- "A bin above L becomes L"
pub shared_above : (l q c : ℕ) → l < c → shared l q c ≡ l
shared_above l q c h = rw (lt-ltb l c h) refl

-- "a bin above U and not above L becomes L"
pub shared_upper : (l q c : ℕ) → c ≤ l → l < c + q → shared l q c ≡ l
shared_upper l q c h u = rw (le-ltb l c h, lt-ltb l (c + q) u) refl

-- "any other takes q"
pub shared_other : (l q c : ℕ) → c + q ≤ l → shared l q c ≡ c + q
shared_other l q c h = let k : c ≤ l = omega arith in rw (le-ltb l c k, le-ltb l (c + q) h) refl

-- a bin above L takes nothing
pub taken_above : (l q c : ℕ) → l < c → taken l q c ≡ 0
taken_above l q c h = rw (lt-ltb l c h) refl

-- a bin above U and not above L "takes L minus its count"
pub taken_upper : (l q c : ℕ) → c ≤ l → l < c + q → taken l q c ≡ l - c
taken_upper l q c h u = rw (le-ltb l c h, lt-ltb l (c + q) u) refl

-- "any other takes q"
pub taken_other : (l q c : ℕ) → c + q ≤ l → taken l q c ≡ q
taken_other l q c h = let k : c ≤ l = omega arith in rw (le-ltb l c k, le-ltb l (c + q) h) refl

-- the three cases of a bin
pub cases : (l q c : ℕ) → (l < c) ⊎ (((c ≤ l) × (l < c + q)) ⊎ (c + q ≤ l))
cases l q c = ⊎_elim inl (λ k. inr (⊎_elim (λ u. inl (k, u)) inr (lt_or_ge l (c + q)))) (lt_or_ge l c)

-- in all three the bin becomes its count and q, and no more than L
pub shared_min : (l q c : ℕ) → shared l q c ≡ min l (c + q)
shared_min l q c = go (cases l q c)
  where
    go : (l < c) ⊎ (((c ≤ l) × (l < c + q)) ⊎ (c + q ≤ l)) → shared l q c ≡ min l (c + q)
    go (inl h) = rw (shared_above l q c h) (omega arith)
    go (inr (inl h)) = rw (shared_upper l q c h.0 h.1) (omega arith)
    go (inr (inr h)) = rw (shared_other l q c h) (omega arith)

-- what a bin becomes and what stood above the limit are what it had and what it takes
bin_kept : (l q c : ℕ) → shared l q c + (c - l) ≡ c + taken l q c
bin_kept l q c = go (cases l q c)
  where
    go : (l < c) ⊎ (((c ≤ l) × (l < c + q)) ⊎ (c + q ≤ l)) → shared l q c + (c - l) ≡ c + taken l q c
    go (inl h) = rw (shared_above l q c h, taken_above l q c h) (omega arith)
    go (inr (inl h)) = rw (shared_upper l q c h.0 h.1, taken_upper l q c h.0 h.1) (omega arith)
    go (inr (inr h)) = rw (shared_other l q c h, taken_other l q c h) (omega arith)

-- the even share brings no bin above the limit
pub shared_most : (l q c : ℕ) → shared l q c ≤ l
shared_most l q c = go (cases l q c)
  where
    go : (l < c) ⊎ (((c ≤ l) × (l < c + q)) ⊎ (c + q ≤ l)) → shared l q c ≤ l
    go (inl h) = rw (shared_above l q c h) (le_refl l)
    go (inr (inl h)) = rw (shared_upper l q c h.0 h.1) (le_refl l)
    go (inr (inr h)) = rw (shared_other l q c h) h

-- a bin has its even share, or is at the limit
pub shared_least : (l q c : ℕ) → (c + q ≤ shared l q c) ⊎ (shared l q c ≡ l)
shared_least l q c = go (cases l q c)
  where
    go : (l < c) ⊎ (((c ≤ l) × (l < c + q)) ⊎ (c + q ≤ l)) → (c + q ≤ shared l q c) ⊎ (shared l q c ≡ l)
    go (inl h) = inr (shared_above l q c h)
    go (inr (inl h)) = inr (shared_upper l q c h.0 h.1)
    go (inr (inr h)) = inl (rw (shared_other l q c h) (le_refl (c + q)))

-- no bin takes more than q
taken_most : (l q c : ℕ) → taken l q c ≤ q
taken_most l q c = go (cases l q c)
  where
    go : (l < c) ⊎ (((c ≤ l) × (l < c + q)) ⊎ (c + q ≤ l)) → taken l q c ≤ q
    go (inl h) = rw (taken_above l q c h) (omega arith)
    go (inr (inl h)) = rw (taken_upper l q c h.0 h.1) (omega arith)
    go (inr (inr h)) = rw (taken_other l q c h) (le_refl q)

-- ---- all bins

-- the excess of no bin, and of a bin with those behind it
pub excess_none : (l : ℕ) → excess l [] ≡ 0
unfolding excess
excess_none l = refl

pub excess_bin : (l c : ℕ) (cs : List ℕ) → excess l (c ∷ cs) ≡ c - l + excess l cs
unfolding excess
excess_bin l c cs = refl

-- the excess as a sum, as an iterator adds it up
pub excess_sum : (l : ℕ) (cs : List ℕ) → excess l cs ≡ sum_by (λ c. c - l) cs
excess_sum l cs = is_sum_by (excess l) (λ c. c - l) (excess_none l) (excess_bin l) cs

-- the excess from a place on: of its bin, and of the bins behind it
pub excess_next : (l : ℕ) (cs : List ℕ) (i : ℕ) → i < length cs → excess l (drop i cs) ≡ get_or cs i 0 - l + excess l (drop (i + 1) cs)
unfolding excess
excess_next l cs i h = rw (add-one i, drop-cons cs i 0 h) refl

-- there is no excess behind the last bin
pub excess_end : (l : ℕ) (cs : List ℕ) (i : ℕ) → length cs ≤ i → excess l (drop i cs) ≡ 0
unfolding excess
excess_end l [] zero h = refl
excess_end l [] (suc i) h = refl
excess_end l (c ∷ cs) zero h = absurd (not-suc-le-zero h)
excess_end l (c ∷ cs) (suc i) h = excess_end l cs i (le_of_suc-le-suc h)

-- the excess is at most the total
pub excess_most : (l : ℕ) (cs : List ℕ) → excess l cs ≤ total cs
unfolding excess total
excess_most l [] = le_refl 0
excess_most l (c ∷ cs) = omega (arith, excess_most l cs)

-- the same of all bins
pub all_kept : (l q : ℕ) (cs : List ℕ) → total (map (shared l q) cs) + excess l cs ≡ total cs + total (map (taken l q) cs)
unfolding excess total
all_kept l q [] = refl
all_kept l q (c ∷ cs) = omega (arith, all_kept l q cs, bin_kept l q c)

-- the bins take at most q each
pub taken_all : (l q : ℕ) (cs : List ℕ) → total (map (taken l q) cs) ≤ q * length cs
unfolding total
taken_all l q [] = omega arith
taken_all l q (c ∷ cs) = omega (arith, taken_all l q cs, taken_most l q c, mul-suc q (length cs))

-- the shares can be taken from the excess
pub taken_within : (l : ℕ) (cs : List ℕ) → total (map (taken l (share l cs)) cs) ≤ excess l cs
unfolding share
taken_within l cs = omega (arith, taken_all l (excess l cs / length cs) cs, div-mul-le_self (excess l cs) (length cs))

-- where the shares can be taken from the excess, the bins have what they had less what is left of it
pub pass_kept : (l q : ℕ) (cs : List ℕ) → total (map (taken l q) cs) ≤ excess l cs
    → total (map (shared l q) cs) + (excess l cs - total (map (taken l q) cs)) ≡ total cs
pass_kept l q cs h = omega (arith, all_kept l q cs)

-- after the first pass, the bins and what is left are all there was
pub total_first : (l : ℕ) (cs : List ℕ) → total (map (shared l (share l cs)) cs) + left l cs ≡ total cs
unfolding left
total_first l cs = pass_kept l (share l cs) cs (taken_within l cs)

-- what is left, as the code works it out
pub left_rest : (l : ℕ) (cs : List ℕ) → left l cs ≡ total cs - total (map (shared l (share l cs)) cs)
left_rest l cs = omega (arith, total_first l cs)

-- ---- the call that joins them: e is the excess that the code worked out

-- the even share is at most the limit and at most all pixels, and the shares can be taken
pub pass_asked : {l : ℕ} {cs : List ℕ} (e : ℕ) → ClipAsks l cs → e ≡ excess l cs
    → PassAsks l (e / length cs) (excess l cs) cs × (e / length cs ≤ 4194304) × (total cs ≤ 4194304)
unfolding share
pass_asked {l} {cs} e a q = (
  record {
    share_small = div-le_of_le-mul (length cs) (omega (arith, a.holds, excess_most l cs, mul_comm l (length cs)));
    all_taken = rw q (taken_within l cs);
  },
  omega (arith, div-le_self e (length cs), excess_most l cs, a.few_pixels),
  a.few_pixels,
)

-- what the first pass leaves, by the rules' own names
first_pass : {l : ℕ} {cs ds : List ℕ} {r : ℕ} (e : ℕ) → e ≡ excess l cs → Passed l (e / length cs) (excess l cs) cs ds r
    → (ds ≡ map (shared l (share l cs)) cs) × (r ≡ left l cs)
unfolding share left
first_pass {l} {cs} {ds} {r} e q p = (
  p.bins ∙ ap (λ x. map (shared l (x / length cs)) cs) q,
  p.rest ∙ ap (λ x. excess l cs - total (map (taken l (x / length cs)) cs)) q,
)

-- the bins have room for what is left
pub walk_asked : {l : ℕ} {cs ds : List ℕ} {r : ℕ} (e : ℕ) → ClipAsks l cs → e ≡ excess l cs → Passed l (e / length cs) (excess l cs) cs ds r → WalkAsks l r ds
walk_asked {l} {cs} {ds} {r} e a q p =
    let f = first_pass e q p in
    let n : length ds ≡ length cs = ap length f.0 ∙ length-map cs (shared l (share l cs)) in
    let t : total ds + r ≡ total cs = ap₂ (λ x y. total x + y) f.0 f.1 ∙ total_first l cs in
    record {
      some_bin = omega (arith, a.some_bin);
      few_bins = omega (arith, a.few_bins);
      few_left = omega (arith, p.rest, excess_most l cs, a.few_pixels);
      room = rw n (omega (arith, a.holds));
    }

-- the pass and the walk together are the clipped counts, and what they took
pub clip_ends : {l : ℕ} {cs ds : List ℕ} {r : ℕ} {es : List ℕ} (e n : ℕ) → e ≡ excess l cs → Passed l (e / length cs) (excess l cs) cs ds r → Walked l r ds es n
    → (es ≡ clipped l cs) × (spent_as e n ≡ spent_of l cs)
unfolding clipped looks_of
clip_ends {l} {cs} {ds} {r} {es} e n q p w =
    let f = first_pass e q p in
    let m : length ds ≡ length cs = ap length f.0 ∙ length-map cs (shared l (share l cs)) in (
      w.bins ∙ (ap (λ k. starts (r * k) l 0 ds r) m ∙ ap₂ (λ x y. starts (y * length cs) l 0 x y) f.0 f.1),
      ap₂ spent_as q
          (w.taken ∙ (ap (λ k. looks_from (r * k) l 0 ds r) m ∙ ap₂ (λ x y. looks_from (y * length cs) l 0 x y) f.0 f.1)),
    )
