-- Laws of `taken_of`: counts from which greys are taken. They mirror those of `tile_count: added_of`.
-- Assumes nothing.
use Prim.Native.Nat.{ℕ, ◌-◌, ◌≤◌, ◌<◌}
use mathlib.Core.Bool.{Bool, true, false}
use mathlib.Core.List.{List, [], ◌∷◌, ◌++◌, map}
use mathlib.Core.Path.{◌≡◌, refl, sym, ap, ap₂, ◌∙◌}
use lib.Dec.{eqb}
use lib.ListN.{length, drop, get_or, set, length-set, take-append-drop}
use lib.Seq.{get_or-set_same, get_or-set_other}
use native.Mathlib.Omega.{arith}
use borrow.Author.Tests.{eqb-true, eqb-false}
use Rattle.base_lists.specs.Lists.{tab, times, filled}
use Rattle.base_lists.proofs.Tabs.{length_tab, get_or_tab, tab_get_or, map_append, eq_tab}
use Rattle.base_lists.proofs.Fills.{length_filled}
use Rattle.base_lists.proofs.Tallies.{times_append, times_same, times_other, get_or_filled, filled_cong, filled_filled, filled_set, filled_tab}
use Rattle.tile_bin.specs.Binning.{bin_of}
use Rattle.tile_slide.specs.Slide.{taken_of}

-- one less at entry j is one less where k is j
tab_fall : (f : ℕ → ℕ) (n j : ℕ) → j < n → set (tab n f) j (f j - 1) ≡ tab n (λ k. f k - times k (j ∷ []))
tab_fall f n j h =
    eq_tab (set (tab n f) j (f j - 1)) n (λ k. f k - times k (j ∷ [])) 0 (length-set (tab n f) j (f j - 1) ∙ length_tab n f) (λ i l. go i l (eqb j i) refl)
  where
    go : (i : ℕ) → i < n → (b : Bool) → eqb j i ≡ b → get_or (set (tab n f) j (f j - 1)) i 0 ≡ f i - times i (j ∷ [])
    go i l true e =
        let q : j ≡ i = eqb-true j i e in
        let m : j < length (tab n f) = rw length_tab h in
        ap (λ k. get_or (set (tab n f) j (f j - 1)) k 0) (sym q)
        ∙ get_or-set_same (tab n f) j (f j - 1) 0 m
        ∙ ap₂ (λ a b. f a - b) q (sym (times_same i j q))
    go i l false e =
        let r : j ≡ i → ⊥ = eqb-false j i e in
        get_or-set_other (tab n f) j i (f j - 1) 0 (λ q. r (sym q))
        ∙ get_or_tab n f i 0 l
        ∙ omega (arith, times_other i j r)

-- one less at entry j of a filled slice
filled_fall : (f : ℕ → ℕ) (d : List ℕ) (n j : ℕ) → j < n
    → set (filled f d n) j (get_or (filled f d n) j 0 - 1) ≡ filled (λ k. f k - times k (j ∷ [])) d n
filled_fall f d n j h =
    ap (λ v. set (filled f d n) j (v - 1)) (get_or_filled f d n j h)
    ∙ filled_set f d n j (f j - 1) h
    ∙ ap (λ t. t ++ drop n d) (tab_fall f n j h)
    ∙ sym (filled_tab (λ k. f k - times k (j ∷ [])) d n)

pub length_taken : (lo hi b : ℕ) (cs vs : List ℕ) → b ≤ length cs → length (taken_of lo hi b cs vs) ≡ length cs
unfolding taken_of
length_taken lo hi b cs vs h = length_filled _ cs b h

pub get_or_taken : (lo hi b : ℕ) (cs vs : List ℕ) (k : ℕ) → k < b
    → get_or (taken_of lo hi b cs vs) k 0 ≡ get_or cs k 0 - times k (map (bin_of lo hi b) vs)
unfolding taken_of
get_or_taken lo hi b cs vs k h = get_or_filled _ cs b k h

-- no grey taken changes nothing
pub taken_none : (lo hi b : ℕ) (cs : List ℕ) → b ≤ length cs → cs ≡ taken_of lo hi b cs []
unfolding taken_of times
taken_none lo hi b cs h =
    sym
    (filled_cong {f = λ k. get_or cs k 0 - 0} {g = λ k. get_or cs k 0} cs b (λ k l. omega arith)
    ∙ filled_tab (λ k. get_or cs k 0) cs b
    ∙ ap (λ t. t ++ drop b cs) (tab_get_or cs 0 b h)
    ∙ take-append-drop b cs)

-- one grey more taken is one less in its bin
pub taken_one : (lo hi b : ℕ) (cs vs : List ℕ) (v : ℕ) → bin_of lo hi b v < b
    → set (taken_of lo hi b cs vs) (bin_of lo hi b v) (get_or (taken_of lo hi b cs vs) (bin_of lo hi b v) 0 - 1) ≡ taken_of lo hi b cs (vs ++ (v ∷ []))
unfolding taken_of
taken_one lo hi b cs vs v h =
    filled_fall (λ k. get_or cs k 0 - times k (map (bin_of lo hi b) vs)) cs b (bin_of lo hi b v) h
    ∙ filled_cong cs b (λ k l. rw (map_append (bin_of lo hi b) vs (v ∷ []), times_append k (map (bin_of lo hi b) vs) (bin_of lo hi b v ∷ [])) (omega arith))

-- greys taken from counts from which greys were taken
pub taken_taken : (lo hi b : ℕ) (cs vs ws : List ℕ) → taken_of lo hi b (taken_of lo hi b cs vs) ws ≡ taken_of lo hi b cs (vs ++ ws)
unfolding taken_of
taken_taken lo hi b cs vs ws =
    filled_filled (λ k. get_or cs k 0 - times k (map (bin_of lo hi b) vs)) _ cs b
    ∙ filled_cong
    cs
    b
    (λ k l. rw (
      get_or_filled (λ k. get_or cs k 0 - times k (map (bin_of lo hi b) vs)) cs b k l,
      map_append (bin_of lo hi b) vs ws,
      times_append k (map (bin_of lo hi b) vs) (map (bin_of lo hi b) ws),
    )
    (omega arith))
