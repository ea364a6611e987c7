-- Order 7, "how long the leftover walk is": how many bins the walk of document 01's rule 4 looks at. l is the limit L, the list holds a count for each bin.
-- Assumes nothing.
use Rattle.std.specs.Prelude.{ℕ, zero, suc, ◌+◌, ◌-◌, ◌*◌, ◌/◌, max, true, false, cond, List, [], ◌∷◌, map, ltb, length}
use Rattle.tile_clip.specs.declared.Spent.{Spent}
use Rattle.tile_clip.specs.Clip.{excess, share, shared, left, walk, next_start_of}

-- the bins that one walk looks at, "a look at a full bin counted too"; `gap` bins are passed over before the next one is looked at, and where nothing is left no bin is
unfoldable pub looks_in : (l step gap : ℕ) (cs : List ℕ) (r : ℕ) → ℕ
looks_in l step gap [] r = 0
looks_in l step gap (c ∷ cs) zero = 0
looks_in l step (suc gap) (c ∷ cs) (suc r) = looks_in l step gap cs (suc r)
looks_in l step zero (c ∷ cs) (suc r) =
    suc (elim (ltb c l) [ true ↦ looks_in l step (step - 1) cs r | false ↦ looks_in l step (step - 1) cs (suc r) ])

-- those of the walks of all starts, of which as many may come as in `starts`
unfoldable pub looks_from : (most l s : ℕ) (cs : List ℕ) (r : ℕ) → ℕ
looks_from zero l s cs r = 0
looks_from (suc k) l s cs zero = 0
looks_from (suc k) l s cs (suc r) =
    let m = max 1 (length cs / suc r) in
    let w = walk l m s cs (suc r) in
    looks_in l m s cs (suc r) + looks_from k l (next_start_of (length cs) s) w.counts w.rest

-- "the number of looks that the rule in 01 takes" for a tile's counts
unfoldable pub looks_of : ℕ → List ℕ → ℕ
looks_of l cs = looks_from (left l cs * length cs) l 0 (map (shared l (share l cs)) cs) (left l cs)

-- "two entries: E, and the number of looks"
abbrev pub spent_as : ℕ → ℕ → Spent
spent_as e n = record { excess = e; looks = n }

-- those of a tile's counts
abbrev pub spent_of : ℕ → List ℕ → Spent
spent_of l cs = spent_as (excess l cs) (looks_of l cs)

-- 1 + 2 + .. + n, that is n x (n + 1) / 2
unfoldable pub up_to : ℕ → ℕ
up_to zero = 0
up_to (suc n) = up_to n + suc n

-- ---- looks that the code does not make

-- at each step-th of n bins
abbrev pub apart : ℕ → ℕ → ℕ
apart step n = (n + (step - 1)) / step

-- of n starts in a row, the last of them at the last bin, that find full bins only: 1 bin, 2 bins, .. up to n
unfoldable pub onward : ℕ → ℕ → ℕ
onward step zero = 0
onward step (suc n) = onward step n + apart step (suc n)

-- of the starts behind s, where the next one that finds a bin under the limit is at bin 0 again: b bins, those from e on full, r left
abbrev pub skipped_of : (b e s r : ℕ) → ℕ
skipped_of b e s r = cond (ltb (s + 1) e) 0 (onward (max 1 (b / r)) (b - (s + 1)))
