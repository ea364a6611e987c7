-- Laws of a table with eight counts of each bin, its ways: what `count_at` and the loops above it do to them, and what they are together.
-- Assumes nothing.
use Prim.Native.Nat.{ℕ, zero, suc, ◌+◌, ◌-◌, ◌*◌, ◌/◌, ◌%◌, ◌^◌, ◌≤◌, ◌<◌}
use mathlib.Core.Bool.{Bool, true, false}
use mathlib.Core.List.{List, [], ◌∷◌, ◌++◌, map}
use mathlib.Core.Logic.{⊎_elim}
use mathlib.Core.Path.{◌≡◌, refl, sym, ap, ap₂, subst, ◌∙◌}
use lib.Dec.{eqb, ltb}
use lib.ListN.{length, take, drop, get_or, set, replicate, get_or-replicate, length-replicate, length-set, length-map, length-take}
use Rattle.std.proofs.lemmas.List.{get_or-map}
use lib.Seq.{take-add, take_all, take-suc}
use native.Mathlib.Nat.{eq-or-lt_of_le, le_of_suc-le-suc, not-suc-le-zero}
use native.Mathlib.Numerals.{add-one}
use native.Mathlib.Omega.{arith}
use borrow.Author.Tests.{ltb-true, lt-ltb, eqb-true, eqb-false, eq-eqb}
use Rattle.base_lists.specs.Lists.{sum, joined, times, all, filled, onto}
use Rattle.base_lists.proofs.Tabs.{tab_all, get_or_tab, eq_tab, map_append, and_left, and_right, and_both}
use Rattle.base_lists.proofs.Sums.{sum_cong, sum_add, sum_const}
use Rattle.base_lists.proofs.Fills.{joined_suc, filled_end, filled_onto, take_onto}
use Rattle.base_lists.proofs.Tallies.{times_append, times_same, times_other, times_le, sum_times_one, tab_bump, filled_cong}
use Rattle.base_lists.proofs.Totals.{get_or_map_lt}
use Rattle.base_lists.proofs.Alls.{all_at, all_take, all_drop, all_map}
use Rattle.base_range.specs.Scan.{within}
use Rattle.base_range.proofs.Spans.{within_low, within_high}
use Rattle.tile_bin.specs.Binning.{bin_by_of, factor_of}
use Rattle.tile_bin.proofs.Bins.{bin_below, bin_by, bin_power}
use Rattle.tile_count.specs.declared.Rect.{Rect}
use Rattle.tile_count.specs.declared.Binning.{Binning}
use Rattle.tile_count.specs.Tally.{greys_of, counts_of, bin_in, place_in, eight_at, is_place, Grows, BinAsks, PlacesAsks, AtAsks, LineAsks, WaysAdded, PartAsks, AddWaysAsks, CountRectAsks, CountWaysAsks}
use Rattle.tile_count.proofs.Cuts.{passed, part_more, part_room, part_is}
use Rattle.tile_count.proofs.Greys.{row_of, rows_whole, rows_room, length_greys, row_all}

-- ---- the place of a grey

module _ {b : Binning} {v : ℕ} (asks : BinAsks b v) where
  -- a grey lies in the range
  pub grey_low : b.min ≤ v
  grey_low = within_low b.min b.max v asks.grey

  pub grey_high : v ≤ 4095
  grey_high = omega (arith, within_high b.min b.max v asks.grey, asks.binning.most)

  -- its bin is one of at most 256
  pub bin_few : bin_in b v < 256
  bin_few = omega (arith, bin_below b.min b.max b.bins v asks.grey asks.binning.some, asks.binning.few)

  -- by the factor
  pub by_factor : bin_by_of b.min b.factor v ≡ bin_in b v
  by_factor = ap (λ f. bin_by_of b.min f v) asks.binning.by ∙ bin_by b.min b.max b.bins v asks.grey asks.binning.most asks.binning.some

  -- and by the shift
  pub by_shift : (s : ℕ) → s < 13 → 2 ^ (24 - s) + 1 ≡ b.factor → (v - b.min) / 2 ^ s ≡ bin_in b v
  unfolding bin_by_of
  by_shift s l e =
      let back : s ≡ 24 - (24 - s) = omega arith in
      ap (λ n. (v - b.min) / 2 ^ n) back ∙ bin_power (v - b.min) (24 - s) b.factor (omega (arith, grey_high)) (omega arith) (omega arith) e ∙ by_factor

-- what the next grey of a row asks
pub next_grey : {row : List ℕ} {b : Binning} {room : ℕ} → PlacesAsks row b room → (x : ℕ) → x < length row → BinAsks b (get_or row x 0)
next_grey {row} {b} asks x l = record { binning = asks.binning; grey = all_at (within b.min b.max) row asks.greys x 0 l }

-- the number that a grey of a row stands for
pub grey_at : {A : Type 0} (f : A → ℕ) (row : List A) {x : ℕ} {a : A} {v : ℕ} → x < length row → a ≡ get_or row x a → v ≡ f a → v ≡ get_or (map f row) x 0
grey_at f row {x} {a} l q e = e ∙ ap f q ∙ sym (get_or-map f row x a 0 l)

-- the whole row
pub places_end : (b : Binning) (row d : List ℕ) {line : List ℕ} {x : ℕ} → line ≡ filled (λ i. place_in b (get_or row i 0)) d x → x ≤ length row → length row ≤ x → line ≡ onto d (map (place_in b) row)
places_end b row d e h l = filled_end _ d e h l ∙ filled_onto _ d (length row) ∙ ap (onto d) (sym (eq_tab (map (place_in b) row) (length row) _ 0 (length-map row (place_in b)) (λ i m. get_or_map_lt (place_in b) row i m)))

-- ---- one entry grows

-- one more in an entry of a list
bumped : (t : List ℕ) (e i : ℕ) → e < length t → i < length t → get_or (set t e (get_or t e 0 + 1)) i 0 ≡ get_or t i 0 + times i (e ∷ [])
bumped t e i h l =
    ap (λ s. get_or (set s e (get_or t e 0 + 1)) i 0) (sym (tab_all t 0))
    ∙ ap (λ s. get_or s i 0) (tab_bump (λ k. get_or t k 0) (length t) e h)
    ∙ get_or_tab (length t) (λ k. get_or t k 0 + times k (e ∷ [])) i 0 l

-- the first terms, and the next, are no more than the sum
sum_front : (n : ℕ) (f : ℕ → ℕ) (i : ℕ) → i < n → sum i f + f i ≤ sum n f
unfolding sum
sum_front zero f i h = absurd (not-suc-le-zero h)
sum_front (suc n) f i h = ⊎_elim (λ e. omega (arith, ap (λ j. sum j f + f j) e)) (λ l. omega (arith, sum_front n f i l)) (eq-or-lt_of_le (le_of_suc-le-suc h))

-- of a bin's eight entries the one at p + j is one, where p is its place
eight_one : (k p j : ℕ) → p % 8 ≡ 0 → j < 8 → sum 8 (λ i. times (k * 8 + i) ((p + j) ∷ [])) ≡ times k ((p / 8) ∷ [])
eight_one k p j e l = go (eqb (p / 8) k) refl
  where
    same : p / 8 ≡ k → (i : ℕ) → (b : Bool) → eqb j i ≡ b → times (k * 8 + i) ((p + j) ∷ []) ≡ times i (j ∷ [])
    same q i true h =
        let r : j ≡ i = eqb-true j i h in
        times_same (k * 8 + i) (p + j) (omega arith) ∙ sym (times_same i j r)
    same q i false h =
        let r : j ≡ i → ⊥ = eqb-false j i h in
        times_other (k * 8 + i) (p + j) (λ s. r (omega (arith, s))) ∙ sym (times_other i j r)

    go : (b : Bool) → eqb (p / 8) k ≡ b → sum 8 (λ i. times (k * 8 + i) ((p + j) ∷ [])) ≡ times k ((p / 8) ∷ [])
    go true h =
        let q : p / 8 ≡ k = eqb-true (p / 8) k h in
        sum_cong 8 {g = λ i. times i (j ∷ [])} (λ i m. same q i (eqb j i) refl) ∙ sum_times_one 8 j l ∙ sym (times_same k (p / 8) q)
    go false h =
        let q : p / 8 ≡ k → ⊥ = eqb-false (p / 8) k h in
        sum_cong 8 {g = λ i. 0} (λ i m. times_other (k * 8 + i) (p + j) (λ s. q (omega (arith, s)))) ∙ sum_const 8 0 ∙ sym (times_other k (p / 8) q)

-- a place begins eight entries
place_eighth : (size p : ℕ) → is_place size p ≡ true → p % 8 ≡ 0
place_eighth size p h = eqb-true (p % 8) 0 (and_left (eqb (p % 8) 0) (ltb (p + 7) size) h)

place_room : (size p : ℕ) → is_place size p ≡ true → p + 7 < size
place_room size p h = ltb-true (p + 7) size (and_right (eqb (p % 8) 0) (ltb (p + 7) size) h)

module _ {p w : ℕ} {t : List ℕ} (asks : AtAsks p w t) where
  eighth : p % 8 ≡ 0
  eighth = place_eighth (length t) p asks.at

  -- the way's entry is there
  pub at_room : p + w < length t
  at_room = omega (arith, place_room (length t) p asks.at, asks.one)

  -- it can grow by one
  pub at_fits : get_or t (p + w) 0 + 1 < 4294967296
  unfolding eight_at
  at_fits =
      let e : p / 8 * 8 + w ≡ p + w = omega (arith, eighth) in
      omega (arith, ap (λ i. get_or t i 0) e, sum_front 8 (λ j. get_or t (p / 8 * 8 + j) 0) w asks.one, asks.fits (p / 8) (omega (arith, eighth, place_room (length t) p asks.at)))

  -- and does
  at_grown : (k : ℕ) → k * 8 + 7 < length t → eight_at (set t (p + w) (get_or t (p + w) 0 + 1)) k ≡ eight_at t k + times k ((p / 8) ∷ [])
  unfolding eight_at
  at_grown k l =
      sum_cong 8 {g = λ i. get_or t (k * 8 + i) 0 + times (k * 8 + i) ((p + w) ∷ [])} (λ i m. bumped t (p + w) (k * 8 + i) at_room (omega arith))
      ∙ sum_add 8 (λ i. get_or t (k * 8 + i) 0) (λ i. times (k * 8 + i) ((p + w) ∷ []))
      ∙ ap (λ n. sum 8 (λ i. get_or t (k * 8 + i) 0) + n) (eight_one k p w eighth asks.one)

  pub at_added : WaysAdded ((p / 8) ∷ []) t (set t (p + w) (get_or t (p + w) 0 + 1))
  at_added = record { size = length-set t (p + w) (get_or t (p + w) 0 + 1); grown = at_grown }

-- ---- a bin's entries are added up

-- what stands in the first j ways of bin k
unfoldable pub front_at : (t : List ℕ) (k j : ℕ) → ℕ
front_at t k j = sum j (λ i. get_or t (k * 8 + i) 0)

pub front_none : (t : List ℕ) (k : ℕ) → 0 ≡ front_at t k 0
unfolding front_at sum
front_none t k = refl

pub front_next : (t : List ℕ) (k j : ℕ) → front_at t k j + get_or t (k * 8 + j) 0 ≡ front_at t k (j + 1)
unfolding front_at sum
front_next t k j = rw (add-one j) refl

pub front_fits : (t : List ℕ) (k j : ℕ) → j < 8 → front_at t k j + get_or t (k * 8 + j) 0 ≤ eight_at t k
unfolding front_at eight_at
front_fits t k j l = sum_front 8 (λ i. get_or t (k * 8 + i) 0) j l

pub front_end : (t : List ℕ) (k j : ℕ) → j ≤ 8 → 8 ≤ j → front_at t k j ≡ eight_at t k
unfolding front_at eight_at
front_end t k j h l = let e : j ≡ 8 = omega arith in ap (λ n. sum n (λ i. get_or t (k * 8 + i) 0)) e

-- what adding up the bins before the last asks
pub fewer_ways : {n : ℕ} {t : List ℕ} → AddWaysAsks n t → (k : ℕ) → k < n → AddWaysAsks (k + 1) t
fewer_ways asks k l = record { enough = omega (arith, asks.enough); fits = λ i h. asks.fits i (omega arith) }

-- ---- bins added one behind the other

pub ways_none : (t : List ℕ) → WaysAdded [] t t
unfolding times
ways_none t = record { size = refl; grown = λ k l. omega arith }

pub ways_more : {vs ws t₀ t t' : List ℕ} → WaysAdded vs t₀ t → WaysAdded ws t t' → WaysAdded (vs ++ ws) t₀ t'
ways_more {vs} {ws} f g = record { size = g.size ∙ f.size; grown = λ k l. omega (arith, g.grown k (omega (arith, f.size)), f.grown k l, times_append k vs ws) }

-- counts that could grow by n can still grow by m, where they grew by the rest
grows_more : {vs t₀ t : List ℕ} {n : ℕ} → Grows t₀ n → WaysAdded vs t₀ t → (m : ℕ) → length vs + m ≤ n → Grows t m
grows_more {vs} {t₀} fits so m h k l =
    let r : k * 8 + 7 < length t₀ = omega (arith, so.size) in
    omega (arith, fits k r, so.grown k r, times_le k vs)

-- in parts: those up to x, and from there to e
module _ (g : ℕ → ℕ) (vs : List ℕ) {t₀ t : List ℕ} (x e : ℕ) (l : x ≤ e) (so : WaysAdded (map g (take x vs)) t₀ t) where
  pub part_next : {t' : List ℕ} → WaysAdded (map g (take (e - x) (drop x vs))) t t' → WaysAdded (map g (take e vs)) t₀ t'
  part_next {t'} more = subst (λ s. WaysAdded s t₀ t') whole (ways_more so more)
    where
      whole : map g (take x vs) ++ map g (take (e - x) (drop x vs)) ≡ map g (take e vs)
      whole =
          let split : x + (e - x) ≡ e = omega arith in
          sym (map_append g (take x vs) (take (e - x) (drop x vs))) ∙ ap (map g) (sym (take-add x (e - x) vs)) ∙ ap (λ n. map g (take n vs)) split

  -- the rest can be added
  pub part_grows : {n : ℕ} → Grows t₀ n → length vs ≤ n → e ≤ length vs → Grows t (length (take (e - x) (drop x vs)))
  part_grows fits h k =
      grows_more fits so (length (take (e - x) (drop x vs))) (omega (arith, length-map (take x vs) g, length-take x vs, length-take (e - x) (drop x vs)))

-- before the first
pub part_start : (g : ℕ → ℕ) (vs t : List ℕ) (x : ℕ) → x ≡ 0 → WaysAdded (map g (take x vs)) t t
part_start g vs t x e = subst (λ n. WaysAdded (map g (take n vs)) t t) (sym e) (ways_none t)

-- where a part was cut off from what is left
module _ (g : ℕ → ℕ) (vs : List ℕ) {rest : List ℕ} (part rest' : List ℕ) (left : rest ≡ drop (passed vs rest) vs) (cut : rest ≡ part ++ rest') where
  pub cut_next : {t₀ t t' : List ℕ} → WaysAdded (map g (take (passed vs rest) vs)) t₀ t → WaysAdded (map g part) t t' → WaysAdded (map g (take (passed vs rest') vs)) t₀ t'
  cut_next {t₀} {t} {t'} so more =
      part_next g vs (passed vs rest) (passed vs rest') (omega (arith, part_more vs left part rest' cut)) so (subst (λ s. WaysAdded (map g s) t t') (part_is vs left part rest' cut) more)

-- up to the end
pub part_to : (g : ℕ → ℕ) (vs : List ℕ) {t₀ t : List ℕ} (x to : ℕ) → WaysAdded (map g (take x vs)) t₀ t → x ≡ to → WaysAdded (map g (take to vs)) t₀ t
part_to g vs {t₀} {t} x to so e = subst (λ n. WaysAdded (map g (take n vs)) t₀ t) e so

-- all of them
pub part_whole : (g : ℕ → ℕ) (vs : List ℕ) {t₀ t : List ℕ} (x : ℕ) → WaysAdded (map g (take x vs)) t₀ t → length vs ≤ x → WaysAdded (map g vs) t₀ t
part_whole g vs {t₀} {t} x so h = subst (λ s. WaysAdded (map g s) t₀ t) (take_all x vs h) so

-- ---- the places of a line

module _ {line t₀ : List ℕ} (asks : LineAsks line t₀) {t : List ℕ} (x : ℕ) (so : WaysAdded (map (λ p. p / 8) (take x line)) t₀ t) where
  -- what the next place asks of way x
  pub next_at : length line ≤ 8 → x < length line → AtAsks (get_or line x 0) x t
  next_at few l =
      record {
        at = subst (λ n. is_place n (get_or line x 0) ≡ true) (sym so.size) (all_at (is_place (length t₀)) line asks.places x 0 l);
        one = omega arith;
        fits = grows_more asks.fits so 1 (omega (arith, length-map (take x line) (λ p. p / 8), length-take x line));
      }

  -- one place more
  pub next_added : x < length line → {t' : List ℕ} → WaysAdded ((get_or line x 0 / 8) ∷ []) t t' → WaysAdded (map (λ p. p / 8) (take (x + 1) line)) t₀ t'
  next_added l {t'} more =
      let one : take (x + 1) line ≡ take x line ++ (get_or line x 0 ∷ []) = rw add-one (take-suc line x 0 l) in
      subst (λ s. WaysAdded s t₀ t') (sym (map_append (λ p. p / 8) (take x line) (get_or line x 0 ∷ [])) ∙ ap (map (λ p. p / 8)) (sym one)) (ways_more so more)

  -- what the places from x to e ask
  pub part_asks : (e : ℕ) → x ≤ e → e ≤ length line → LineAsks (take (e - x) (drop x line)) t
  part_asks e l h =
      record {
        places = subst (λ n. all (is_place n) (take (e - x) (drop x line)) ≡ true) (sym so.size) (all_take (is_place (length t₀)) (e - x) (drop x line) (all_drop (is_place (length t₀)) x line asks.places));
        fits = part_grows (λ p. p / 8) line x e l so asks.fits (omega arith) h;
      }

  -- what a turn that was cut off asks
  pub turn_asks : {rest : List ℕ} (turn rest' : List ℕ) → x ≡ passed line rest → rest ≡ drop x line → rest ≡ turn ++ rest' → LineAsks turn t
  turn_asks {rest} turn rest' e left cut =
      let behind : rest ≡ drop (passed line rest) line = left ∙ ap (λ n. drop n line) e in
      let is : turn ≡ take (passed line rest' - x) (drop x line) = part_is line behind turn rest' cut ∙ ap (λ n. take (passed line rest' - n) (drop n line)) (sym e) in
      rw is (part_asks (passed line rest') (omega (arith, part_more line behind turn rest' cut)) (part_room line behind turn rest' cut))

-- ---- the greys of a row

-- a bin's place has the bin's number, and begins eight entries
eighths : (b : Binning) (vs : List ℕ) → map (λ p. p / 8) (map (place_in b) vs) ≡ map (bin_in b) vs
eighths b [] = refl
eighths b (v ∷ vs) = let e : place_in b v / 8 ≡ bin_in b v = omega arith in ap₂ (λ x xs. x ∷ xs) e (eighths b vs)

module _ {row : List ℕ} {b : Binning} {t : List ℕ} (asks : PartAsks row b t) where
  -- what laying their places into a line asks
  pub places_asks : {room : ℕ} → length row ≤ room → PlacesAsks row b room
  places_asks h = record { binning = asks.binning; greys = asks.greys; enough = h }

  grey_place : (v : ℕ) → within b.min b.max v ≡ true → is_place (length t) (place_in b v) ≡ true
  grey_place v h =
      and_both
      (eqb (place_in b v % 8) 0)
      (ltb (place_in b v + 7) (length t))
      (eq-eqb (place_in b v % 8) 0 (omega arith))
      (lt-ltb (place_in b v + 7) (length t) (omega (arith, bin_below b.min b.max b.bins v h asks.binning.some, asks.enough)))

  module _ (d : List ℕ) {line : List ℕ} (e : line ≡ onto d (map (place_in b) row)) (n : ℕ) (wide : length row ≡ n) where
    -- the front of the line has them
    front : take n line ≡ map (place_in b) row
    front = ap (take n) e ∙ take_onto d (map (place_in b) row) n (length-map row (place_in b) ∙ wide)

    pub front_size : n ≡ length (take n line)
    front_size = sym (ap length front ∙ length-map row (place_in b) ∙ wide)

    -- what adding them asks
    pub front_asks : LineAsks (take n line) t
    front_asks =
        rw front
        record {
          places = all_map (within b.min b.max) (is_place (length t)) (place_in b) row grey_place asks.greys;
          fits = λ k l. omega (arith, asks.fits k l, length-map row (place_in b));
        }

    -- and what it comes to
    pub front_added : {t' : List ℕ} → WaysAdded (map (λ p. p / 8) (take n line)) t t' → WaysAdded (map (bin_in b) row) t t'
    front_added {t'} so = subst (λ s. WaysAdded s t t') (ap (map (λ p. p / 8)) front ∙ eighths b row) so

  -- what the greys from x to e ask
  pub row_part : {t' : List ℕ} (x e : ℕ) → x ≤ e → e ≤ length row → WaysAdded (map (bin_in b) (take x row)) t t' → PartAsks (take (e - x) (drop x row)) b t'
  row_part x e l h so =
      record {
        binning = asks.binning;
        greys = all_take (within b.min b.max) (e - x) (drop x row) (all_drop (within b.min b.max) x row asks.greys);
        enough = omega (arith, so.size, asks.enough);
        fits = part_grows (bin_in b) row x e l so asks.fits (omega arith) h;
      }

  -- where they were cut off from what is left
  pub cut_part : {t' : List ℕ} {rest : List ℕ} (part rest' : List ℕ) → rest ≡ drop (passed row rest) row → rest ≡ part ++ rest' → WaysAdded (map (bin_in b) (take (passed row rest) row)) t t' → PartAsks part b t'
  cut_part {rest = rest} part rest' left cut so =
      rw (part_is row left part rest' cut) (row_part (passed row rest) (passed row rest') (omega (arith, part_more row left part rest' cut)) (part_room row left part rest' cut) so)

-- ---- row by row

module _ {pic : List ℕ} {stride : ℕ} {r : Rect} {b : Binning} {t₀ : List ℕ} (asks : CountWaysAsks pic stride r b t₀) where
  pub ways_first : WaysAdded (map (bin_in b) (joined 0 (row_of pic stride r))) t₀ t₀
  unfolding joined
  ways_first = ways_none t₀

  module _ {t : List ℕ} (y : ℕ) (so : WaysAdded (map (bin_in b) (joined y (row_of pic stride r))) t₀ t) (h : y < r.height) {row : List ℕ} (q : row ≡ row_of pic stride r y) where
    -- what the next row asks
    pub ways_row_asks : PartAsks row b t
    ways_row_asks =
        rw q
        record {
          binning = record { by = asks.by; most = asks.asks.scale.most; some = omega (arith, asks.asks.scale.some); few = asks.asks.enough };
          greys = row_all (within b.min b.max) pic stride r asks.asks.greys y h;
          enough = omega (arith, so.size, asks.enough);
          fits = grows_more asks.fits so (length (row_of pic stride r y)) (omega (arith, length-map (joined y (row_of pic stride r)) (bin_in b), rows_room pic stride r y h));
        }

    -- one row more
    pub ways_next : {t' : List ℕ} → WaysAdded (map (bin_in b) row) t t'
        → WaysAdded (map (bin_in b) (joined (y + 1) (row_of pic stride r))) t₀ t'
    ways_next {t'} g =
        subst
        (λ s. WaysAdded s t₀ t')
        (sym (map_append (bin_in b) (joined y (row_of pic stride r)) (row_of pic stride r y)) ∙ ap (map (bin_in b)) (sym (joined_suc y (row_of pic stride r))))
        (ways_more so (subst (λ s. WaysAdded (map (bin_in b) s) t t') q g))

  pub ways_all : {t : List ℕ} (y : ℕ) → WaysAdded (map (bin_in b) (joined y (row_of pic stride r))) t₀ t → y ≤ r.height → r.height ≤ y → WaysAdded (map (bin_in b) (greys_of pic stride r)) t₀ t
  ways_all {t} y so h l = subst (λ s. WaysAdded (map (bin_in b) s) t₀ t) (rows_whole pic stride r y h l) so

-- ---- the whole rectangle

-- ways that are clear are none
ways_clear : (m k : ℕ) → k * 8 + 7 < m → eight_at (replicate m 0) k ≡ 0
unfolding eight_at
ways_clear m k l = sum_cong 8 {g = λ i. 0} (λ i h. get_or-replicate {A = ℕ} m (k * 8 + i) 0 0 (omega arith)) ∙ sum_const 8 0

module _ {pic : List ℕ} {stride : ℕ} {r : Rect} {b : Binning} {room : ℕ} (asks : CountRectAsks pic stride r b.min b.max b.bins room) (by : b.factor ≡ factor_of b.min b.max b.bins)
    (few : b.bins ≤ 256) where
  -- what the rows ask
  pub ways_asks : CountWaysAsks pic stride r b (replicate 2048 0)
  ways_asks =
      record {
        asks = record { inside = asks.inside; scale = asks.scale; enough = few; greys = asks.greys };
        by = by;
        enough = rw (length-replicate {A = ℕ} 2048 0) (omega arith);
        fits = λ k l. omega (arith, ways_clear 2048 k (rw (sym (length-replicate {A = ℕ} 2048 0)) l), asks.inside.few);
      }

  module _ {t : List ℕ} (so : WaysAdded (map (bin_in b) (greys_of pic stride r)) (replicate 2048 0) t) where
    -- what stands in a bin's ways then
    counted : (k : ℕ) → k < b.bins → eight_at t k ≡ times k (map (bin_in b) (greys_of pic stride r))
    counted k l = omega (arith, so.grown k (rw (length-replicate {A = ℕ} 2048 0) (omega arith)), ways_clear 2048 k (omega arith))

    -- what adding them up asks
    pub ways_fit : AddWaysAsks b.bins t
    ways_fit =
        record {
          enough = omega (arith, so.size, length-replicate {A = ℕ} 2048 0);
          fits = λ k l. omega (
            arith,
            counted k l,
            times_le k (map (bin_in b) (greys_of pic stride r)),
            length-map (greys_of pic stride r) (bin_in b),
            length_greys pic stride r,
            asks.inside.few,
          );
        }

    -- and what it comes to
    pub ways_end : (cs : List ℕ) {x : List ℕ} → x ≡ filled (eight_at t) cs b.bins → x ≡ onto cs (counts_of b.min b.max b.bins (greys_of pic stride r))
    unfolding counts_of
    ways_end cs h =
        h
        ∙ filled_cong {g = λ k. times k (map (bin_in b) (greys_of pic stride r))} cs b.bins counted
        ∙ filled_onto (λ k. times k (map (bin_in b) (greys_of pic stride r))) cs b.bins
