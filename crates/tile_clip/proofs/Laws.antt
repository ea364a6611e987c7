-- What the clipped counts are: as many as the counts, adding up to the same, none above the limit, each with its even share or at the limit. How many looks they took at most.
-- Assumes nothing.
use Prim.Native.Nat.{ℕ, ◌+◌, ◌*◌, ◌≤◌, ◌<◌}
use mathlib.Core.List.{List, map}
use mathlib.Core.Logic.{◌⊎◌, inl, inr}
use mathlib.Core.Path.{◌≡◌, sym, ap, ◌∙◌}
use lib.ListN.{length, length-map, get_or}
use native.Mathlib.Nat.{mul_left_comm}
use native.Mathlib.Omega.{arith}
use Rattle.base_lists.specs.Lists.{total}
use Rattle.base_lists.proofs.Totals.{get_or_map_lt, get_or_map_le}
use Rattle.tile_clip.specs.Clip.{share, shared, left, starts, clipped}
use Rattle.tile_clip.specs.Looks.{looks_from, looks_of, up_to}
use Rattle.tile_clip.proofs.Looked.{looks_none_left, looks_most, up_to_twice}
use Rattle.tile_clip.proofs.Rounds.{length_starts, starts_most, starts_grows, total_all_starts}
use Rattle.tile_clip.proofs.Shares.{shared_most, shared_least, total_first}

-- clipping keeps the number of bins
pub length_clipped : (l : ℕ) (cs : List ℕ) → length (clipped l cs) ≡ length cs
unfolding clipped
length_clipped l cs =
    length_starts (left l cs * length cs) l 0 (map (shared l (share l cs)) cs) (left l cs) ∙ length-map cs (shared l (share l cs))

-- clipping keeps the total: nothing is lost and nothing made, where the bins can hold it
pub total_clipped : (l : ℕ) (cs : List ℕ) → 0 < length cs → total cs ≤ l * length cs → total (clipped l cs) ≡ total cs
unfolding clipped
total_clipped l cs h room =
    let ds = map (shared l (share l cs)) cs in
    let n : length ds ≡ length cs = length-map cs (shared l (share l cs)) in
    let t : total ds + left l cs ≡ total cs = total_first l cs in
    ap (λ k. total (starts (left l cs * k) l 0 ds (left l cs))) (sym n)
    ∙ (total_all_starts l ds (left l cs) (omega arith) (rw n (omega arith)) ∙ t)

-- no clipped count is above the limit
pub clipped_most : (l : ℕ) (cs : List ℕ) (i : ℕ) → get_or (clipped l cs) i 0 ≤ l
unfolding clipped
clipped_most l cs i =
    starts_most (left l cs * length cs) l 0 (map (shared l (share l cs)) cs) (left l cs) i
    (get_or_map_le (shared l (share l cs)) l (shared_most l (share l cs)) cs i)

-- the starts take nothing back from a bin that the first pass left
clipped_grown : (l : ℕ) (cs : List ℕ) (i : ℕ) → i < length cs → shared l (share l cs) (get_or cs i 0) ≤ get_or (clipped l cs) i 0
unfolding clipped
clipped_grown l cs i h =
    rw (get_or_map_lt (shared l (share l cs)) cs i h)
    at (starts_grows (left l cs * length cs) l 0 (map (shared l (share l cs)) cs) (left l cs) i)

-- each bin has its count and the even share at least, or is at the limit
pub clipped_least : (l : ℕ) (cs : List ℕ) (i : ℕ) → i < length cs
    → (get_or cs i 0 + share l cs ≤ get_or (clipped l cs) i 0) ⊎ (get_or (clipped l cs) i 0 ≡ l)
clipped_least l cs i h = go (shared_least l (share l cs) (get_or cs i 0))
  where
    go : (get_or cs i 0 + share l cs ≤ shared l (share l cs) (get_or cs i 0)) ⊎ (shared l (share l cs) (get_or cs i 0) ≡ l)
        → (get_or cs i 0 + share l cs ≤ get_or (clipped l cs) i 0) ⊎ (get_or (clipped l cs) i 0 ≡ l)
    go (inl p) = inl (omega (arith, clipped_grown l cs i h))
    go (inr e) = inr (omega (arith, clipped_grown l cs i h, clipped_most l cs i))

-- order 7, "it is 0 when r is 0"
pub looks_none : (l : ℕ) (cs : List ℕ) → left l cs ≡ 0 → looks_of l cs ≡ 0
unfolding looks_of
looks_none l cs e =
    ap (looks_from (left l cs * length cs) l 0 (map (shared l (share l cs)) cs)) e
    ∙ looks_none_left (left l cs * length cs) l 0 (map (shared l (share l cs)) cs)

-- "and never more than r x B x (B + 1) / 2": twice of it
pub looks_within : (l : ℕ) (cs : List ℕ) → 2 * looks_of l cs ≤ left l cs * (length cs * (length cs + 1))
unfolding looks_of
looks_within l cs =
    let ds = map (shared l (share l cs)) cs in
    let n : length ds ≡ length cs = length-map cs (shared l (share l cs)) in
    let m : looks_from (left l cs * length cs) l 0 ds (left l cs) ≤ left l cs * up_to (length cs) = rw n at (looks_most l ds (left l cs)) in
    let e : left l cs * (length cs * (length cs + 1)) ≡ 2 * (left l cs * up_to (length cs)) =
    ap (λ x. left l cs * x) (sym (up_to_twice (length cs))) ∙ mul_left_comm (left l cs) 2 (up_to (length cs)) in
    omega (arith, m, e)
