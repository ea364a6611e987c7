-- Order 8: the clip rule of 1986 (source 002). c is C, "our limit"; the list holds a count for each bin.
-- Assumes nothing.
use Rattle.std.specs.Prelude.{ℕ, zero, suc, ◌+◌, ◌-◌, ◌*◌, ◌/◌, ◌≤◌, ◌<◌, Bool, true, false, cond, List, [], ◌∷◌, map, ◌≡◌, leb, ltb, length}
use Rattle.base_lists.specs.Lists.{total}
use Rattle.tile_clip.specs.Clip.{excess}

-- "what stands above P, summed over the bins, is at most B x (C - P)"
abbrev pub levels : ℕ → List ℕ → ℕ → Bool
levels c cs p = leb (excess p cs) (length cs * (c - p))

-- the largest number from 0 to n that levels, 0 for none
unfoldable pub level_from : ℕ → ℕ → List ℕ → ℕ
level_from zero c cs = 0
level_from (suc n) c cs = elim (levels c cs (suc n)) [ true ↦ suc n | false ↦ level_from n c cs ]

-- "P is the largest whole number from 0 to C for which what stands above P, summed over the bins, is at most B x (C - P)."
unfoldable pub level_of : ℕ → List ℕ → ℕ
level_of c cs = level_from c c cs

-- "A bin below P becomes its count plus C - P, any other becomes C."
abbrev pub raised : (c p x : ℕ) → ℕ
raised c p x = cond (ltb x p) (x + (c - p)) c

-- the counts by the rule of 1986; their sum is "the new total T"
unfoldable pub older : ℕ → List ℕ → List ℕ
older c cs = map (raised c (level_of c cs)) cs

-- ---- what the functions ask and leave

-- a tile's counts, and a limit under which the bins hold them, as C always is (`tile_limit: limit_holds`)
pub record OlderAsks (c : ℕ) (cs : List ℕ) : Type 0 where
  pub some_bin : 0 < length cs
  pub few_bins : length cs ≤ 4096
  pub few_pixels : total cs ≤ 4194304
  pub holds : total cs ≤ c * length cs

-- a bin that stands at p or above
abbrev pub reaching : ℕ → ℕ → ℕ
reaching p x = cond (leb p x) 1 0

-- how many bins do
unfoldable pub reach : ℕ → List ℕ → ℕ
reach p [] = 0
reach p (x ∷ cs) = reaching p x + reach p cs

-- what a step down asks: something is missing, not all bins reach the level, and the step does not go below 0
pub record DescendAsks (p over room bins reached : ℕ) : Type 0 where
  pub more : room < over
  pub few_pixels : over ≤ 4194304
  pub few_bins : bins ≤ 4096
  pub some : reached < bins
  pub least : (over - room + (bins - reached) - 1) / (bins - reached) ≤ p

-- one step of the search: p itself where it levels, else a lower number, and none above that up to p does
pub record Lowered (c : ℕ) (cs : List ℕ) (p r : ℕ) : Type 0 where
  pub most : r ≤ p
  pub stays : p ≤ r → levels c cs p ≡ true
  pub none : (q : ℕ) → r < q → q ≤ p → levels c cs q ≡ false

-- what laying the raised counts down asks: a level up to C, and a sum that fits
pub record LiftAsks (c p : ℕ) (cs : List ℕ) : Type 0 where
  pub most : p ≤ c
  pub small : total (map (raised c p) cs) ≤ 4294967295
