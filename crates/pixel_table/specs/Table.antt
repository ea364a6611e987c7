-- Order 4 for every pixel: the weighted sum of each bin at the left tiles' centre, and what it moves by from column to column.
-- a, b, c and d are the mapped values of the four tiles, upper left, upper right, lower left and lower right; ks are the bins of a run's pixels.
-- Assumes nothing.
use Rattle.std.specs.Prelude.{ℕ, ◌+◌, ◌-◌, ◌*◌, ◌/◌, ◌%◌, ◌≤◌, ◌<◌, cond, List, ◌≡◌, ltb, eqb, length, get_or}
use Rattle.base_lists.specs.Lists.{tab, filled}
use Rattle.pixel_place.specs.declared.Place.{Place}
use Rattle.pixel_place.specs.Blend.{grey_of, pair_of, Sound, moved}

-- ---- a part of a list

-- d with its entries from `at` up to `end` replaced, entry i by f of i and of what it held
unfoldable pub patch_of : (ℕ → ℕ → ℕ) → List ℕ → ℕ → ℕ → List ℕ
patch_of f d at end = filled (λ i. cond (ltb i at) (get_or d i 0) (f i (get_or d i 0))) d end

-- ---- a run from its four tiles

-- the grey of pixel i of a run, of bin k
abbrev pub blended_at : (column row : Place) (a b c d : List ℕ) (i k : ℕ) → ℕ
blended_at column row a b c d i k = grey_of (moved column i) row (get_or a k 0) (get_or b k 0) (get_or c k 0) (get_or d k 0)

-- the run
unfoldable pub blended_run : (column row : Place) (a b c d ks : List ℕ) → List ℕ
blended_run column row a b c d ks = tab (length ks) (λ i. blended_at column row a b c d i (get_or ks i 0))

-- ---- the tables

-- the pair of bin k on one side: the mapped values above and below, each by the row's weight
abbrev pub side_at : Place → List ℕ → List ℕ → ℕ → ℕ
side_at row above below k = pair_of row (get_or above k 0) (get_or below k 0)

-- the weighted sum at the centre of the left tiles, whose pair is l, times `by`
abbrev pub start_sum : ℕ → Place → ℕ → ℕ
start_sum by column l = by * (column.span * l)

-- the mapped difference by which it moves, times `by`: the right pair less the left one, kept above 0 by the largest pair that there is
abbrev pub step_of : (by : ℕ) (row : Place) (l r : ℕ) → ℕ
step_of by row l r = by * (r + row.span * 4095 - l)

-- entry n of the table, whatever it held: at 2k the start of bin k, at 2k + 1 its step
unfoldable pub entry_of : (by : ℕ) (column row : Place) (a b c d : List ℕ) (n v : ℕ) → ℕ
entry_of by column row a b c d n v =
    cond (eqb (n % 2) 0) (start_sum by column (side_at row a c (n / 2))) (step_of by row (side_at row a c (n / 2)) (side_at row b d (n / 2)))

-- the weighted sum of a pixel of bin k, x columns from the centre, times `by`, from table t: the start, moved x times, and what kept the step above 0 taken off
abbrev pub sum_at : (t : List ℕ) (most x k : ℕ) → ℕ
sum_at t most x k = get_or t (2 * k) 0 + x * get_or t (2 * k + 1) 0 - x * most

-- its grey: q is what the sum is divided by
unfoldable pub moved_at : (q : ℕ) (t : List ℕ) (most x k : ℕ) → ℕ
moved_at q t most x k = sum_at t most x k / q

-- the grey of pixel i of a run, of bin k, whose first pixel is `from` columns from the centre
abbrev pub moved_by : (q : ℕ) (t : List ℕ) (from most i k : ℕ) → ℕ
moved_by q t from most i k = moved_at q t most (from + i) k

-- the run
unfoldable pub moved_run : (q : ℕ) (t : List ℕ) (from most : ℕ) (ks : List ℕ) → List ℕ
moved_run q t from most ks = tab (length ks) (λ i. moved_by q t from most i (get_or ks i 0))

-- ---- what the functions ask

-- the mapped values of n bins of each of the four tiles
pub record Tiles (a b c d : List ℕ) (n : ℕ) : Type 0 where
  pub along : (length a ≡ n) × (length b ≡ n) × (length c ≡ n) × (length d ≡ n)
  pub most : (k : ℕ) → k < n → (get_or a k 0 ≤ 4095) × (get_or b k 0 ≤ 4095) × (get_or c k 0 ≤ 4095) × (get_or d k 0 ≤ 4095)

-- sound places, and a factor under which no weighted sum reaches 2^62
pub record Scaled (by : ℕ) (atcolumn atrow : Place) : Type 0 where
  pub column : Sound 16 2048 atcolumn
  pub row : Sound 16 2048 atrow
  pub room : by * (atcolumn.span * (atrow.span * 4095)) < 4611686018427387904

-- what a pixel of bin k, x columns from the centre, asks of table t
pub record Moves (t : List ℕ) (most x k : ℕ) : Type 0 where
  pub there : 2 * k + 1 < length t
  pub room : get_or t (2 * k) 0 + x * get_or t (2 * k + 1) 0 < 18446744073709551616
  pub holds : x * most ≤ get_or t (2 * k) 0 + x * get_or t (2 * k + 1) 0

-- what pixels from `at` up to `end` ask
pub record MoveAsks (t : List ℕ) (from most at end : ℕ) (ks : List ℕ) : Type 0 where
  pub order : at ≤ end
  pub inside : end ≤ length ks
  pub near : from + end ≤ 4096
  pub each : (i : ℕ) → at ≤ i → i < end → Moves t most (from + i) (get_or ks i 0)

-- and that `can` holds of the sum of each of them
pub record SumsCan (can : ℕ → Type 0) (t : List ℕ) (from most at end : ℕ) (ks : List ℕ) : Type 0 where
  pub each : (i : ℕ) → at ≤ i → i < end → can (sum_at t most (from + i) (get_or ks i 0))

-- what a run asks: four tiles of n bins, sound places, bins, and no more pixels than the weight can move by
pub record RunAsks (atcolumn atrow : Place) (a b c d : List ℕ) (n : ℕ) (ks : List ℕ) : Type 0 where
  pub tiles : Tiles a b c d n
  pub column : Sound 16 2048 atcolumn
  pub row : Sound 16 2048 atrow
  pub some : 0 < n
  pub few : n ≤ 4096
  pub room : length ks ≤ atcolumn.lowerweight
  pub bins : (i : ℕ) → i < length ks → get_or ks i 0 < n

-- bins from `low` up to `top`, with room for two entries of each
pub record Within (low top n room : ℕ) (ks : List ℕ) : Type 0 where
  pub order : low ≤ top
  pub under : top ≤ n
  pub fits : 2 * top ≤ room
  pub bins : (i : ℕ) → i < length ks → (low ≤ get_or ks i 0) × (get_or ks i 0 < top)
