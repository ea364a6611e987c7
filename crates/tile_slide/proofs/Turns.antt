-- The turns of `take_one`, `take_row` and `take_rect`: what a grey, each grey of a row, and each row of a rectangle does to the counts.
-- Assumes nothing.
use Prim.Native.Nat.{ℕ, zero, suc, ◌+◌, ◌-◌, ◌≤◌, ◌<◌}
use mathlib.Core.Logic.{◌⊎◌, inl, inr}
use Rattle.base_lists.proofs.Orders.{lt_or_ge}
use mathlib.Core.Bool.{true}
use mathlib.Core.List.{List, [], ◌∷◌, ◌++◌, map}
use mathlib.Core.Path.{◌≡◌, sym, ap, ap₂, ◌∙◌}
use lib.ListN.{length, take, drop, get_or, set, take-append-drop}
use lib.Seq.{take-suc, take_all, drop-cons}
use native.Mathlib.Numerals.{add-one}
use native.Mathlib.Omega.{arith}
use Rattle.base_lists.specs.Lists.{joined, times}
use Rattle.base_lists.proofs.Alls.{all_one, all_at}
use Rattle.base_lists.proofs.Fills.{joined_suc}
use Rattle.base_lists.proofs.Tabs.{map_append}
use Rattle.base_lists.proofs.Tallies.{times_append, times_same}
use Rattle.base_range.specs.Scan.{within}
use Rattle.base_range.proofs.Spans.{within_low, within_high}
use Rattle.tile_bin.specs.Binning.{bin_of, bin_by_of}
use Rattle.tile_bin.proofs.Bins.{bin_below, bin_by}
use Rattle.tile_count.specs.declared.Rect.{Rect}
use Rattle.tile_count.specs.Tally.{greys_of}
use Rattle.tile_count.proofs.Greys.{row_of, rows_whole, row_all, greys_rows}
use Rattle.tile_slide.specs.Slide.{taken_of, TakeAsks, TakeRectAsks}
use Rattle.tile_slide.proofs.Taken.{length_taken, get_or_taken, taken_none, taken_one, taken_taken}

-- how often a bin stands in two lists of greys, one behind the other
times_both : (f : ℕ → ℕ) (k : ℕ) (vs ws : List ℕ) → times k (map f (vs ++ ws)) ≡ times k (map f vs) + times k (map f ws)
times_both f k vs ws = ap (times k) (map_append f vs ws) ∙ times_append k (map f vs) (map f ws)

-- ---- one grey

module _ {v lo hi b factor : ℕ} {cs : List ℕ} (asks : TakeAsks (v ∷ []) lo hi b factor cs) where
  one_within : within lo hi v ≡ true
  one_within = all_at (within lo hi) (v ∷ []) asks.greys 0 0 (omega arith)

  -- what its bin asks
  pub one_asks_bin : (lo ≤ v) × (v ≤ 4095)
  one_asks_bin = (within_low lo hi v one_within, omega (arith, within_high lo hi v one_within, asks.most))

  module _ {k : ℕ} (e : k ≡ bin_by_of lo factor v) where
    one_by : k ≡ bin_of lo hi b v
    one_by = e ∙ ap (λ f. bin_by_of lo f v) asks.by ∙ bin_by lo hi b v one_within asks.most asks.some

    one_below : bin_of lo hi b v < b
    one_below = bin_below lo hi b v one_within asks.some

    -- its bin has a count
    pub one_room : k < length cs
    one_room = omega (arith, one_by, one_below, asks.room)

    -- which can fall by one
    pub one_holds : 1 ≤ get_or cs k 0
    one_holds = omega (arith, times_same k (bin_of lo hi b v) (sym one_by), asks.holds k (omega (arith, one_by, one_below)))

    -- and does
    pub one_taken : set cs k (get_or cs k 0 - 1) ≡ taken_of lo hi b cs (v ∷ [])
    one_taken = ap₂ (λ s j. set s j (get_or s j 0 - 1)) (taken_none lo hi b cs asks.room) one_by ∙ taken_one lo hi b cs [] v one_below

-- ---- a row

module _ {row : List ℕ} {lo hi b factor : ℕ} {cs₀ : List ℕ} (asks : TakeAsks row lo hi b factor cs₀) {cs : List ℕ} {x v : ℕ}
    (l : x < length row) (q : v ≡ get_or row x 0) (e : cs ≡ taken_of lo hi b cs₀ (take x row)) where
  -- the row up to this grey, with it, is no more than the row
  part_times : (k : ℕ) → times k (map (bin_of lo hi b) (take x row)) + times k (map (bin_of lo hi b) (v ∷ [])) ≤ times k (map (bin_of lo hi b) row)
  part_times k =
      let whole : row ≡ take x row ++ ((v ∷ []) ++ drop (x + 1) row) = sym (take-append-drop x row) ∙ ap (λ t. take x row ++ t) (drop-cons row x 0 l ∙ ap₂ (λ a n. a ∷ drop n row) (sym q) (sym (add-one x))) in
      let two = times_both (bin_of lo hi b) k (take x row) ((v ∷ []) ++ drop (x + 1) row) in
      let one = times_both (bin_of lo hi b) k (v ∷ []) (drop (x + 1) row) in
      omega (arith, ap (λ t. times k (map (bin_of lo hi b) t)) whole, two, one)

  -- what the next grey asks
  pub next_asks : TakeAsks (v ∷ []) lo hi b factor cs
  next_asks =
      record {
        by = asks.by;
        most = asks.most;
        some = asks.some;
        room = omega (arith, ap length e ∙ length_taken lo hi b cs₀ (take x row) asks.room, asks.room);
        greys = all_one (within lo hi) (rw q (all_at (within lo hi) row asks.greys x 0 l));
        holds = λ k h. omega (arith, ap (λ s. get_or s k 0) e ∙ get_or_taken lo hi b cs₀ (take x row) k h, part_times k, asks.holds k h);
      }

  -- one grey more
  pub row_next : {cs' : List ℕ} → cs' ≡ taken_of lo hi b cs (v ∷ []) → cs' ≡ taken_of lo hi b cs₀ (take (x + 1) row)
  row_next h =
      h
      ∙ ap₂ (taken_of lo hi b) e (ap (λ u. u ∷ []) q)
      ∙ taken_taken lo hi b cs₀ (take x row) (get_or row x 0 ∷ [])
      ∙ ap (taken_of lo hi b cs₀) (sym (rw add-one (take-suc row x 0 l)))

-- the whole row
pub row_end : (lo hi b : ℕ) (cs₀ row : List ℕ) {cs : List ℕ} {x : ℕ} → cs ≡ taken_of lo hi b cs₀ (take x row) → length row ≤ x → cs ≡ taken_of lo hi b cs₀ row
row_end lo hi b cs₀ row {cs} {x} e h = e ∙ ap (taken_of lo hi b cs₀) (take_all x row h)

-- ---- a rectangle

-- before the first row
pub rows_first : (lo hi b : ℕ) (cs : List ℕ) (f : ℕ → List ℕ) → b ≤ length cs → cs ≡ taken_of lo hi b cs (joined 0 f)
unfolding joined
rows_first lo hi b cs f h = taken_none lo hi b cs h

-- one row more
pub rows_next : (lo hi b : ℕ) (f : ℕ → List ℕ) (cs₀ : List ℕ) {cs cs' row : List ℕ} (y : ℕ)
    → cs ≡ taken_of lo hi b cs₀ (joined y f) → row ≡ f y → cs' ≡ taken_of lo hi b cs row → cs' ≡ taken_of lo hi b cs₀ (joined (y + 1) f)
rows_next lo hi b f cs₀ {cs} {cs'} {row} y e q h =
    h
    ∙ ap₂ (taken_of lo hi b) e q
    ∙ taken_taken lo hi b cs₀ (joined y f) (f y)
    ∙ ap (taken_of lo hi b cs₀) (sym (joined_suc y f))

-- all rows
pub rows_end : (lo hi b : ℕ) (pic : List ℕ) (stride : ℕ) (r : Rect) (cs₀ : List ℕ) {cs : List ℕ} (y : ℕ) → cs ≡ taken_of lo hi b cs₀ (joined y (row_of pic stride r))
    → y ≤ r.height → r.height ≤ y → cs ≡ taken_of lo hi b cs₀ (greys_of pic stride r)
rows_end lo hi b pic stride r cs₀ y e h l = e ∙ ap (taken_of lo hi b cs₀) (rows_whole pic stride r y h l)

-- the rows down to row y, with it, have no more of a bin than all n rows
joined_times : (g : ℕ → ℕ) (k : ℕ) (f : ℕ → List ℕ) (y n : ℕ) → y < n → times k (map g (joined y f)) + times k (map g (f y)) ≤ times k (map g (joined n f))
unfolding joined
joined_times g k f y zero h = absurd (omega arith)
joined_times g k f y (suc n) h = go (lt_or_ge y n) (joined_times g k f y n)
  where
    both : times k (map g (joined n f ++ f n)) ≡ times k (map g (joined n f)) + times k (map g (f n))
    both = times_both g k (joined n f) (f n)

    go : (y < n) ⊎ (n ≤ y) → (y < n → times k (map g (joined y f)) + times k (map g (f y)) ≤ times k (map g (joined n f)))
        → times k (map g (joined y f)) + times k (map g (f y)) ≤ times k (map g (joined n f ++ f n))
    go (inl l) before = omega (arith, both, before l)
    go (inr l) before = let q : y ≡ n = omega arith in omega (arith, both, ap (λ m. times k (map g (joined m f))) q, ap (λ m. times k (map g (f m))) q)

-- what a row asks
pub row_asks : {pic : List ℕ} {stride : ℕ} {r : Rect} {lo hi b factor : ℕ} {cs₀ cs : List ℕ} → TakeRectAsks pic stride r lo hi b factor cs₀ → (y : ℕ)
    → cs ≡ taken_of lo hi b cs₀ (joined y (row_of pic stride r)) → y < r.height → {row : List ℕ} → row ≡ row_of pic stride r y → TakeAsks row lo hi b factor cs
row_asks {pic} {stride} {r} {lo} {hi} {b} {factor} {cs₀} {cs} takes y e h q =
    rw q
    record {
      by = takes.asks.by;
      most = takes.asks.most;
      some = takes.asks.some;
      room = omega (arith, ap length e ∙ length_taken lo hi b cs₀ (joined y (row_of pic stride r)) takes.asks.room, takes.asks.room);
      greys = row_all (within lo hi) pic stride r takes.asks.greys y h;
      holds = λ k l. omega (
        arith,
        ap (λ s. get_or s k 0) e ∙ get_or_taken lo hi b cs₀ (joined y (row_of pic stride r)) k l,
        joined_times (bin_of lo hi b) k (row_of pic stride r) y r.height h,
        ap (λ vs. times k (map (bin_of lo hi b) vs)) (greys_rows pic stride r),
        takes.asks.holds k l,
      );
    }
