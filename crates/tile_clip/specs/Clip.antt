-- Document 01, "From pixels to mappings", rules 3 and 4: from counts to clipped counts. l is the limit L, the list holds a count for each bin.
-- Assumes nothing.
use Rattle.std.specs.Prelude.{ℕ, zero, suc, ◌+◌, ◌-◌, ◌*◌, ◌/◌, max, true, false, cond, List, [], ◌∷◌, map, ltb, length}
use Rattle.base_lists.specs.Lists.{total}

-- "Excess E is the sum over bins of what stands above L."
unfoldable pub excess : ℕ → List ℕ → ℕ
excess l [] = 0
excess l (c ∷ cs) = c - l + excess l cs

-- "q = floor(E / B)"
unfoldable pub share : ℕ → List ℕ → ℕ
share l cs = excess l cs / length cs

-- "A bin above L becomes L; a bin above U and not above L becomes L ..; any other takes q."
-- U = L - q, so "above U" is that the count with q is above L.
abbrev pub shared : (l q c : ℕ) → ℕ
shared l q c = cond (ltb l c) l (cond (ltb l (c + q)) l (c + q))

-- what a bin takes of the excess: nothing; ".. takes L minus its count"; "any other takes q"
abbrev pub taken : (l q c : ℕ) → ℕ
taken l q c = cond (ltb l c) 0 (cond (ltb l (c + q)) (l - c) q)

-- "What is left of E is r."
unfoldable pub left : ℕ → List ℕ → ℕ
left l cs = excess l cs - total (map (taken l (share l cs)) cs)

-- counts, and what is still left to hand out
pub record Spread : Type 0 where
  pub counts : List ℕ
  pub rest : ℕ

-- a bin that was looked at, or passed over, in front of what the walk makes of the bins behind it
abbrev pub behind : ℕ → Spread → Spread
behind c w = record { counts = c ∷ w.counts; rest = w.rest }

-- "From the start upward by that step, a bin under L gains one and r loses one. All of it stops the moment r reaches 0."
-- `gap` bins are passed over before the next one is looked at.
unfoldable pub walk : (l step gap : ℕ) (cs : List ℕ) (r : ℕ) → Spread
walk l step gap [] r = record { counts = []; rest = r }
walk l step gap (c ∷ cs) zero = record { counts = c ∷ cs; rest = 0 }
walk l step (suc gap) (c ∷ cs) (suc r) = behind c (walk l step gap cs (suc r))
walk l step zero (c ∷ cs) (suc r) =
    elim (ltb c l) [ true ↦ behind (c + 1) (walk l step (step - 1) cs r) | false ↦ behind c (walk l step (step - 1) cs (suc r)) ]

-- "starts run from bin 0 to bin B - 1, then from 0 again"
abbrev pub next_start_of : ℕ → ℕ → ℕ
next_start_of b s = cond (ltb (s + 1) b) (s + 1) 0

-- "while r > 0 .. At each start with r > 0 the step is floor(B / r), at least 1, fixed for this start."
-- The first argument counts the starts that may still come.
unfoldable pub starts : (most l s : ℕ) (cs : List ℕ) (r : ℕ) → List ℕ
starts zero l s cs r = cs
starts (suc k) l s cs zero = cs
starts (suc k) l s cs (suc r) =
    let w = walk l (max 1 (length cs / suc r)) s cs (suc r) in
    starts k l (next_start_of (length cs) s) w.counts w.rest

-- the clipped counts: the even share first, then the leftover; r x B starts are enough, since each run through all starts hands out one at least
unfoldable pub clipped : ℕ → List ℕ → List ℕ
clipped l cs = starts (left l cs * length cs) l 0 (map (shared l (share l cs)) cs) (left l cs)
