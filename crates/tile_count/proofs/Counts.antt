-- Laws of `counts_of` and `added_of`: the counts of greys, and counts to which greys are added.
-- Assumes nothing.
use Prim.Native.Nat.{ℕ, ◌+◌, ◌≤◌, ◌<◌}
use mathlib.Core.Bool.{true}
use mathlib.Core.List.{List, [], ◌∷◌, ◌++◌, map}
use mathlib.Core.Path.{◌≡◌, refl, sym, ap, ◌∙◌}
use lib.Dec.{ltb}
use lib.ListN.{length, drop, get_or, set, length-map, take-append-drop}
use native.Mathlib.Omega.{arith}
use Rattle.base_lists.specs.Lists.{tab, total, all, times, onto, filled}
use Rattle.base_lists.proofs.Tabs.{length_tab, tab_get_or, eq_tab, map_append}
use Rattle.base_lists.proofs.Sums.{total_tab}
use Rattle.base_lists.proofs.Fills.{length_filled, filled_onto}
use Rattle.base_lists.proofs.Tallies.{times_append, times_le, sum_times, get_or_filled, filled_cong, filled_filled, filled_bump, filled_tab}
use Rattle.base_lists.proofs.Alls.{all_map}
use Rattle.base_range.specs.Scan.{within}
use Rattle.tile_bin.specs.Binning.{bin_of}
use Rattle.tile_count.specs.Tally.{counts_of, added_of}
use Rattle.tile_bin.proofs.Bins.{bin_test}

-- there is a count for each bin
pub length_counts : (lo hi b : ℕ) (vs : List ℕ) → length (counts_of lo hi b vs) ≡ b
unfolding counts_of
length_counts lo hi b vs = length_tab b _

-- each is how often its bin occurs
pub counts_tab : (lo hi b : ℕ) (vs : List ℕ) → counts_of lo hi b vs ≡ tab b (λ k. times k (map (bin_of lo hi b) vs))
unfolding counts_of
counts_tab lo hi b vs = refl

-- so a list of as many that says this of each bin is the counts
pub counts_by : (lo hi b : ℕ) (vs cs : List ℕ) → length cs ≡ b → ((k : ℕ) → k < b → get_or cs k 0 ≡ times k (map (bin_of lo hi b) vs)) → cs ≡ counts_of lo hi b vs
unfolding counts_of
counts_by lo hi b vs cs l each = eq_tab cs b (λ k. times k (map (bin_of lo hi b) vs)) 0 l each

-- and where they stand in the front of a list they are found there
pub counts_front : (lo hi b : ℕ) (d vs : List ℕ) (k : ℕ) → k < b → get_or (onto d (counts_of lo hi b vs)) k 0 ≡ times k (map (bin_of lo hi b) vs)
unfolding counts_of
counts_front lo hi b d vs k l = ap (λ z. get_or z k 0) (sym (filled_onto _ d b)) ∙ get_or_filled _ d b k l

-- the counts add up to the greys that were counted
pub total_counts : (lo hi b : ℕ) (vs : List ℕ) → all (within lo hi) vs ≡ true → 0 < b → total (counts_of lo hi b vs) ≡ length vs
unfolding counts_of
total_counts lo hi b vs h p =
    total_tab b (λ k. times k (map (bin_of lo hi b) vs))
    ∙ sum_times b (map (bin_of lo hi b) vs) (all_map (within lo hi) (λ x. ltb x b) (bin_of lo hi b) vs (bin_test lo hi b p) h)
    ∙ length-map vs (bin_of lo hi b)

-- ---- counts to which greys are added

pub length_added : (lo hi b : ℕ) (cs vs : List ℕ) → b ≤ length cs → length (added_of lo hi b cs vs) ≡ length cs
unfolding added_of
length_added lo hi b cs vs h = length_filled _ cs b h

pub get_or_added : (lo hi b : ℕ) (cs vs : List ℕ) (k : ℕ) → k < b
    → get_or (added_of lo hi b cs vs) k 0 ≡ get_or cs k 0 + times k (map (bin_of lo hi b) vs)
unfolding added_of
get_or_added lo hi b cs vs k h = get_or_filled _ cs b k h

-- a count grows by at most one for each grey
pub added_le : (lo hi b : ℕ) (cs vs : List ℕ) (k : ℕ) → k < b → get_or (added_of lo hi b cs vs) k 0 ≤ get_or cs k 0 + length vs
added_le lo hi b cs vs k h =
    rw (get_or_added lo hi b cs vs k h) (omega (arith, times_le k (map (bin_of lo hi b) vs), length-map vs (bin_of lo hi b)))

-- no grey added changes nothing
pub added_none : (lo hi b : ℕ) (cs : List ℕ) → b ≤ length cs → cs ≡ added_of lo hi b cs []
unfolding added_of times
added_none lo hi b cs h =
    sym
    (filled_cong {f = λ k. get_or cs k 0 + 0} {g = λ k. get_or cs k 0} cs b (λ k l. omega arith)
    ∙ filled_tab (λ k. get_or cs k 0) cs b
    ∙ ap (λ t. t ++ drop b cs) (tab_get_or cs 0 b h)
    ∙ take-append-drop b cs)

-- one grey more is one more in its bin
pub added_one : (lo hi b : ℕ) (cs vs : List ℕ) (v : ℕ) → bin_of lo hi b v < b
    → set (added_of lo hi b cs vs) (bin_of lo hi b v) (get_or (added_of lo hi b cs vs) (bin_of lo hi b v) 0 + 1) ≡ added_of lo hi b cs (vs ++ (v ∷ []))
unfolding added_of
added_one lo hi b cs vs v h =
    filled_bump (λ k. get_or cs k 0 + times k (map (bin_of lo hi b) vs)) cs b (bin_of lo hi b v) h
    ∙ filled_cong cs b (λ k l. rw (map_append (bin_of lo hi b) vs (v ∷ []), times_append k (map (bin_of lo hi b) vs) (bin_of lo hi b v ∷ [])) (omega arith))

-- greys added to counts to which greys were added
pub added_added : (lo hi b : ℕ) (cs vs ws : List ℕ) → added_of lo hi b (added_of lo hi b cs vs) ws ≡ added_of lo hi b cs (vs ++ ws)
unfolding added_of
added_added lo hi b cs vs ws =
    filled_filled (λ k. get_or cs k 0 + times k (map (bin_of lo hi b) vs)) _ cs b
    ∙ filled_cong
    cs
    b
    (λ k l. rw (
      get_or_filled (λ k. get_or cs k 0 + times k (map (bin_of lo hi b) vs)) cs b k l,
      map_append (bin_of lo hi b) vs ws,
      times_append k (map (bin_of lo hi b) vs) (map (bin_of lo hi b) ws),
    )
    (omega arith))

-- greys added to cleared counts are the counts of the greys
pub added_clear : (lo hi b : ℕ) (cs vs : List ℕ) → added_of lo hi b (filled (λ k. 0) cs b) vs ≡ onto cs (counts_of lo hi b vs)
unfolding added_of counts_of
added_clear lo hi b cs vs =
    filled_filled (λ k. 0) _ cs b
    ∙ filled_cong {g = λ k. times k (map (bin_of lo hi b) vs)} cs b (λ k l. rw (get_or_filled (λ k. 0) cs b k l) (omega arith))
    ∙ filled_onto (λ k. times k (map (bin_of lo hi b) vs)) cs b
