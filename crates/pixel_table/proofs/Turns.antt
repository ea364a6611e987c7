-- A run from its table: the turns of `move_part`, `move_four` and `move_run`, and that such a run is the run from its four tiles.
-- Assumes nothing.
use Prim.Native.Nat.{ℕ, ◌+◌, ◌-◌, ◌*◌, ◌/◌, ◌≤◌, ◌<◌}
use mathlib.Core.List.{List}
use mathlib.Core.Path.{◌≡◌, refl, sym, ap, ap₂, ◌∙◌}
use lib.ListN.{length, get_or, set}
use native.Mathlib.Nat.{mul_comm, mul_assoc, one-mul, mul-le-mul, mul-le-mul_left, mul-le-mul_right}
use native.Mathlib.Omega.{arith}
use Rattle.base_lists.specs.Lists.{filled}
use Rattle.base_lists.proofs.Tabs.{tab_cong}
use Rattle.base_lists.proofs.Fills.{length_filled}
use Rattle.base_lists.proofs.Puts.{put, put_from}
use Rattle.base_lists.proofs.Windows.{get_or_behind, filled_whole}
use Rattle.base_lists.proofs.Tallies.{get_or_filled}
use Rattle.base_lists.proofs.Inverses.{by_inverse}
use Rattle.pixel_place.specs.declared.Place.{Place}
use Rattle.pixel_place.specs.Blend.{sides_of, moved}
use Rattle.pixel_place.proofs.Laws.{mean_most, sides_grey}
use Rattle.pixel_table.proofs.Patches.{patch_read, patch_next, patch_end, patch_none, patch_fills}
use Rattle.pixel_table.specs.Table.{patch_of, blended_at, blended_run, side_at, start_sum, step_of, entry_of, sum_at, moved_at, moved_by, moved_run, Scaled, Moves, MoveAsks, SumsCan, RunAsks, Within}
use Rattle.pixel_table.proofs.Tables.{entry_start, entry_step, pair_fits, sum_moved}

-- ---- patches

-- an entry of a patch
pub patch_at : (f : ℕ → ℕ → ℕ) (d : List ℕ) {at end i : ℕ} → at ≤ i → i < end → get_or (patch_of f d at end) i 0 ≡ f i (get_or d i 0)
unfolding patch_of
patch_at f d {at} {end} {i} l h = get_or_filled (put f d at) d end i h ∙ put_from f d l

-- a patch keeps the length
pub patch_length : (f : ℕ → ℕ → ℕ) (d : List ℕ) (at : ℕ) {end : ℕ} → end ≤ length d → length (patch_of f d at end) ≡ length d
unfolding patch_of
patch_length f d at {end} h = length_filled (put f d at) d end h

-- ---- the turns

-- the grey that was worked out
pub moved_is : (q : ℕ) (t : List ℕ) (most x k : ℕ) {s v : ℕ} → s ≡ sum_at t most x k → v ≡ s / q → v ≡ moved_at q t most x k
unfolding moved_at
moved_is q t most x k e f = f ∙ ap (λ z. z / q) e

module _ (q : ℕ) {t : List ℕ} {from most at end : ℕ} {ks : List ℕ} (asks : MoveAsks t from most at end ks) {i : ℕ} (m : at ≤ i) (h : i < end)
    {px : List ℕ} (e : px ≡ patch_of (moved_by q t from most) ks at i) where
  -- what pixel i asks
  pub turn_asks : Moves t most (from + i) (get_or px i 0)
  turn_asks = rw (patch_read (moved_by q t from most) ks at i e) (asks.each i m h)

  -- and that its sum can be divided
  pub turn_can : {can : ℕ → Type 0} → SumsCan can t from most at end ks → {s : ℕ} → s ≡ sum_at t most (from + i) (get_or px i 0) → can s
  turn_can sums {s} f = rw (f, patch_read (moved_by q t from most) ks at i e) (sums.each i m h)

  -- one pixel more
  pub turn_next : {v : ℕ} → v ≡ moved_at q t most (from + i) (get_or px i 0) → set px i v ≡ patch_of (moved_by q t from most) ks at (i + 1)
  turn_next f = patch_next (moved_by q t from most) ks at i e m (omega (arith, asks.inside)) f

-- four pixels, each worked out from what stood there
pub four_are : (q : ℕ) (t : List ℕ) (from most at : ℕ) (ks : List ℕ) {p o r s : ℕ} → at + 4 ≤ length ks
    → p ≡ moved_at q t most (from + at) (get_or ks at 0) → o ≡ moved_at q t most (from + at + 1) (get_or ks (at + 1) 0)
    → r ≡ moved_at q t most (from + at + 2) (get_or ks (at + 2) 0) → s ≡ moved_at q t most (from + at + 3) (get_or ks (at + 3) 0)
    → set (set (set (set ks at p) (at + 1) o) (at + 2) r) (at + 3) s ≡ patch_of (moved_by q t from most) ks at (at + 4)
four_are q t from most at ks {p} {o} {r} {s} h hp hq hr hs =
    patch_end f ks at (at + 3 + 1) four (omega arith) (omega arith)
  where
    f : ℕ → ℕ → ℕ
    f = moved_by q t from most

    -- entry j ahead is as it was
    read : {px : List ℕ} (j : ℕ) → px ≡ patch_of f ks at j → {v x : ℕ} → v ≡ moved_at q t most x (get_or ks j 0) → x ≡ from + j → v ≡ f j (get_or px j 0)
    read {px} j e {v} {x} w g = w ∙ ap₂ (moved_at q t most) g (sym (patch_read f ks at j e))

    none : ks ≡ patch_of f ks at at
    none = patch_none f ks at (omega arith)

    one : set ks at p ≡ patch_of f ks at (at + 1)
    one = patch_next f ks at at none (omega arith) (omega arith) (read at none hp refl)

    two : set (set ks at p) (at + 1) o ≡ patch_of f ks at (at + 1 + 1)
    two = patch_next f ks at (at + 1) one (omega arith) (omega arith) (read (at + 1) one hq (omega arith))

    two' : set (set ks at p) (at + 1) o ≡ patch_of f ks at (at + 2)
    two' = patch_end f ks at (at + 1 + 1) two (omega arith) (omega arith)

    three : set (set (set ks at p) (at + 1) o) (at + 2) r ≡ patch_of f ks at (at + 2 + 1)
    three = patch_next f ks at (at + 2) two' (omega arith) (omega arith) (read (at + 2) two' hr (omega arith))

    three' : set (set (set ks at p) (at + 1) o) (at + 2) r ≡ patch_of f ks at (at + 3)
    three' = patch_end f ks at (at + 2 + 1) three (omega arith) (omega arith)

    four : set (set (set (set ks at p) (at + 1) o) (at + 2) r) (at + 3) s ≡ patch_of f ks at (at + 3 + 1)
    four = patch_next f ks at (at + 3) three' (omega arith) (omega arith) (read (at + 3) three' hs (omega arith))

-- the grey of the run's pixel i
abbrev pub moved_on_lem : ℕ → List ℕ → ℕ → ℕ → List ℕ → ℕ → ℕ
moved_on_lem q t from most ks i = moved_by q t from most i (get_or ks i 0)

module _ (q : ℕ) {t : List ℕ} {from most : ℕ} {ks : List ℕ} (asks : MoveAsks t from most 0 (length ks) ks)
    {px : List ℕ} {at : ℕ} (e : px ≡ filled (moved_on_lem q t from most ks) ks at) {end : ℕ} (m : at ≤ end) (h : end ≤ length ks) where
  -- what a stretch asks
  pub stretch_asks : length px ≡ length ks → MoveAsks t from most at end px
  stretch_asks z =
      record {
        order = m;
        inside = omega arith;
        near = omega (arith, asks.near);
        each = λ i l b. rw (ap (λ s. get_or s i 0) e ∙ get_or_behind (moved_on_lem q t from most ks) ks at i l) (asks.each i (omega arith) (omega arith));
      }

  pub stretch_can : {can : ℕ → Type 0} → SumsCan can t from most 0 (length ks) ks → SumsCan can t from most at end px
  stretch_can sums =
      record { each = λ i l b. rw (ap (λ s. get_or s i 0) e ∙ get_or_behind (moved_on_lem q t from most ks) ks at i l) (sums.each i (omega arith) (omega arith)) }

  -- one stretch more
  pub stretch_next : {ys : List ℕ} → ys ≡ patch_of (moved_by q t from most) px at end → ys ≡ filled (moved_on_lem q t from most ks) ks end
  stretch_next f = patch_fills (moved_by q t from most) ks e m f

-- the whole run
pub run_moved : (q : ℕ) (t : List ℕ) (from most : ℕ) (ks : List ℕ) {px : List ℕ} → px ≡ filled (moved_on_lem q t from most ks) ks (length ks) → px ≡ moved_run q t from most ks
unfolding moved_run
run_moved q t from most ks e = e ∙ filled_whole (moved_on_lem q t from most ks) ks

-- ---- from a filled table

-- what the sums are divided by gives the quotient by the spans
abbrev pub Divides : ℕ → ℕ → ℕ → Type 0
Divides by q spans = (n : ℕ) → n ≤ spans * 4095 → by * n / q ≡ n / spans

-- a factor of 2^50 does, for spans of at most 2^19
pub factor_divides : (d : ℕ) → 0 < d → d ≤ 524288 → Divides (1125899906842624 / d + 1) 1125899906842624 d
factor_divides d some few n h =
    let most : n ≤ 524288 * 4095 = omega (arith, h, mul-le-mul_right 4095 few) in
    let near : n * d ≤ 524288 * 4095 * 524288 = mul-le-mul most few in
    ap (λ z. z / 1125899906842624) (mul_comm (1125899906842624 / d + 1) n) ∙ by_inverse 1125899906842624 n d some (omega (arith, near))

-- and so does none
pub none_divides : (d : ℕ) → Divides 1 d d
none_divides d n h = ap (λ z. z / d) (one-mul n)

module _ {column row : Place} {a b c d : List ℕ} {n : ℕ} {ks : List ℕ} (asks : RunAsks column row a b c d n ks) {by : ℕ} (q : ℕ) (sc : Scaled by column row) (divides : Divides by q (column.span * row.span))
    {low top : ℕ} (u : List ℕ) (reach : Within low top n (length u) ks) {t : List ℕ} (e : t ≡ patch_of (entry_of by column row a b c d) u (2 * low) (2 * top)) where
  -- the table keeps its length
  pub table_length : length t ≡ length u
  table_length = ap length e ∙ patch_length (entry_of by column row a b c d) u (2 * low) reach.fits

  module _ {k : ℕ} (hl : low ≤ k) (hk : k < top) where
    abbrev l : ℕ
    l = side_at row a c k

    abbrev r : ℕ
    r = side_at row b d k

    abbrev m : ℕ
    m = row.span * 4095

    start : get_or t (2 * k) 0 ≡ start_sum by column l
    start = ap (λ s. get_or s (2 * k) 0) e ∙ patch_at (entry_of by column row a b c d) u (omega arith) (omega arith) ∙ entry_start by column row a b c d k (get_or u (2 * k) 0)

    step : get_or t (2 * k + 1) 0 ≡ step_of by row l r
    step = ap (λ s. get_or s (2 * k + 1) 0) e ∙ patch_at (entry_of by column row a b c d) u (omega arith) (omega arith) ∙ entry_step by column row a b c d k (get_or u (2 * k + 1) 0)

    inside : k < n
    inside = omega (arith, reach.under)

    left_fits : l ≤ m
    left_fits = pair_fits sc (asks.tiles.most k inside).0 (asks.tiles.most k inside).2

    right_fits : r ≤ m
    right_fits = pair_fits sc (asks.tiles.most k inside).1 (asks.tiles.most k inside).3

    module _ {x : ℕ} (hx : x ≤ column.span) where
      -- the weighted sum x columns on
      abbrev pub sum : ℕ
      sum = (column.span - x) * l + x * r

      -- what the code adds up
      made : get_or t (2 * k) 0 + x * get_or t (2 * k + 1) 0 ≡ by * sum + x * (m * by)
      made = ap₂ (λ p q. p + x * q) start step ∙ sum_moved by column.span x l r m hx left_fits

      sum_fits : sum ≤ column.span * m
      sum_fits = mean_most (column.span - x) x column.span l r m (omega arith) left_fits right_fits

      scaled_fits : by * sum < 4611686018427387904
      scaled_fits = omega (arith, mul-le-mul_left by sum_fits, sc.room)

      off_fits : x * (m * by) < 4611686018427387904
      off_fits = omega (arith, mul-le-mul_right (m * by) hx, mul_assoc column.span m by, mul_comm (column.span * m) by, sc.room)

      -- what pixels of bin k ask
      pub bin_moves : Moves t (m * by) x k
      bin_moves =
          record {
            there = omega (arith, table_length, reach.fits);
            room = omega (arith, made, scaled_fits, off_fits);
            holds = omega (arith, made);
          }

      -- their sum
      pub bin_sum : sum_at t (m * by) x k ≡ by * sum
      bin_sum = omega (arith, made)

      -- it is no larger than what is divided may be
      pub bin_fits : sum ≤ column.span * row.span * 4095
      bin_fits = rw (mul_assoc column.span row.span 4095) sum_fits

      bin_moved : moved_at q t (m * by) x k ≡ sum / (column.span * row.span)
      unfolding moved_at
      bin_moved = ap (λ z. z / q) bin_sum ∙ divides sum bin_fits

    -- the grey of a pixel of bin k
    pub bin_grey : {i : ℕ} → i ≤ column.lowerweight → moved_at q t (m * by) (column.upperweight + i) k ≡ blended_at column row a b c d i k
    unfolding sides_of
    bin_grey {i} hi =
        let far : column.upperweight + i ≤ column.span = omega (arith, asks.column.weights) in
        let weight : column.span - (column.upperweight + i) ≡ column.lowerweight - i = omega (arith, asks.column.weights) in
        bin_moved far
        ∙ ap (λ w. (w * l + (column.upperweight + i) * r) / (column.span * row.span)) weight
        ∙ sides_grey (moved column i) row (get_or a k 0) (get_or b k 0) (get_or c k 0) (get_or d k 0)

  -- what the run asks of its table
  pub run_asks : MoveAsks t column.upperweight (row.span * 4095 * by) 0 (length ks) ks
  run_asks =
      record {
        order = omega arith;
        inside = omega arith;
        near = omega (arith, asks.room, asks.column.weights, asks.column.bound);
        each = λ i l h. bin_moves (reach.bins i h).0 (reach.bins i h).1 (omega (arith, asks.room, asks.column.weights));
      }

  -- and what it comes to
  pub run_blended : {ys : List ℕ} → ys ≡ moved_run q t column.upperweight (row.span * 4095 * by) ks → ys ≡ blended_run column row a b c d ks
  unfolding moved_run blended_run
  run_blended f = f ∙ tab_cong (length ks) (λ i h. bin_grey (reach.bins i h).0 (reach.bins i h).1 (omega (arith, asks.room)))

  -- the sums themselves, which `pixel_place` divides
  pub run_sums : (i : ℕ) → i < length ks → by ≡ 1 → sum_at t (row.span * 4095 * by) (column.upperweight + i) (get_or ks i 0) ≤ column.span * row.span * 4095
  run_sums i h one =
      let far : column.upperweight + i ≤ column.span = omega (arith, asks.room, asks.column.weights) in
      omega (arith, bin_sum (reach.bins i h).0 (reach.bins i h).1 far, ap (λ z. z * sum (reach.bins i h).0 (reach.bins i h).1 far) one, one-mul (sum (reach.bins i h).0 (reach.bins i h).1 far), bin_fits (reach.bins i h).0 (reach.bins i h).1 far)
