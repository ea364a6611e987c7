-- Laws of places between tile centres and of runs of columns: what callers use, so that nobody opens `place_of`.
-- Assumes nothing.
use Prim.Native.Nat.{ℕ, zero, suc, ◌+◌, ◌-◌, ◌*◌, ◌/◌, ◌≤◌, ◌<◌}
use mathlib.Core.Bool.{Bool, true, false, cond}
use mathlib.Core.Logic.{◌≢◌}
use mathlib.Core.Path.{◌≡◌, refl, sym, ap, ◌∙◌}
use lib.Dec.{leb, ltb, eqb}
use borrow.Author.Tests.{lt-ltb, le-ltb, eq-eqb, ne_eqb, eqb-true, eqb-false, ltb-true, ltb-false, leb-true, leb-false}
use native.Mathlib.Nat.{le_refl}
use native.Mathlib.Numerals.{add-one}
use native.Mathlib.Omega.{arith}
use Rattle.pixel_grid.specs.Grid.{edge_of, size_of, centre_of, Fits}
use Rattle.pixel_grid.proofs.Edges.{edge_first, edge_last, size_ends, size_some, size_most, centre_least, centre_most, centre_rises, centre_apart, tile_in, tile_starts, tile_ends}
use Rattle.pixel_place.specs.declared.Place.{Place}
use Rattle.pixel_place.specs.Blend.{alone, between, reached_of, placed, place_of, Sound, moved, SameTiles, length_of}

-- ---- the three places

-- n is one more than the last centre that x has reached
reached_from : (side grid x n k : ℕ) → k ≤ n → ((i : ℕ) → i + 1 ≡ k → centre_of side grid i ≤ x) → ((i : ℕ) → k ≤ i → i < n → x < centre_of side grid i) → reached_of side grid n x ≡ k
unfolding reached_of
reached_from side grid x zero k l b a = omega arith
reached_from side grid x (suc n) k l b a =
    go (λ h. reached_from side grid x n k h b (λ i p m. a i p (omega arith))) (leb (centre_of side grid n) x) refl (ltb n k) refl
  where
    go : (k ≤ n → reached_of side grid n x ≡ k) → (t : Bool) → leb (centre_of side grid n) x ≡ t → (u : Bool) → ltb n k ≡ u → cond t (suc n) (reached_of side grid n x) ≡ k
    go ih true e true q = omega (arith, ltb-true n k q)
    go ih true e false q = absurd (omega (arith, leb-true (centre_of side grid n) x e, a n (ltb-false n k q) (omega arith)))
    go ih false e true q = let z : n + 1 ≡ k = omega (arith, ltb-true n k q) in absurd (omega (arith, leb-false (centre_of side grid n) x e, b n z))
    go ih false e false q = ih (ltb-false n k q)

place_at : (side grid x n : ℕ) → n ≤ grid → ((i : ℕ) → i + 1 ≡ n → centre_of side grid i ≤ x) → ((i : ℕ) → n ≤ i → i < grid → x < centre_of side grid i)
    → place_of side grid x ≡ placed side grid x n
unfolding place_of
place_at side grid x n l below above = ap (placed side grid x) (reached_from side grid x grid n l below above)

-- centres behind one that is behind x are behind x
above_from : {side grid : ℕ} → Fits side grid → (x n i : ℕ) → x < centre_of side grid n → n ≤ i → x < centre_of side grid i
above_from {side} {grid} fits x n zero h l = let z : n ≡ 0 = omega arith in rw z at h
above_from {side} {grid} fits x n (suc i) h l = go (λ q. above_from fits x n i h q) (ltb i n) refl
  where
    go : (n ≤ i → x < centre_of side grid i) → (b : Bool) → ltb i n ≡ b → x < centre_of side grid (suc i)
    go ih true e = let z : n ≡ suc i = omega (arith, ltb-true i n e) in rw z at h
    go ih false e =
        let m : x < centre_of side grid (i + 1) = omega (arith, ih (ltb-false i n e), centre_rises fits i) in
        rw (← add-one i) m

module _ {side grid : ℕ} (fits : Fits side grid) where
  -- in front of the first centre
  pub place_first : (x : ℕ) → x < centre_of side grid 0 → place_of side grid x ≡ alone side grid 0
  place_first x h = place_at side grid x 0 (omega arith) (λ i e. absurd (omega arith)) (λ i l m. above_from fits x 0 i h l)

  -- from centre k on and in front of centre k + 1
  pub place_between : (x k : ℕ) → k + 1 < grid → centre_of side grid k ≤ x → x < centre_of side grid (k + 1) → place_of side grid x ≡ between side grid x k
  place_between x k l a b =
      place_at side grid x (suc k) (omega arith) (λ i e. let z : i ≡ k = omega arith in rw z a) (λ i p m. above_from fits x (k + 1) i b (omega arith))
      ∙ rw (ne_eqb (suc k) grid (λ e. omega arith)) refl

  -- from the last centre on
  pub place_last : (x k : ℕ) → k + 1 ≡ grid → centre_of side grid k ≤ x → place_of side grid x ≡ alone side grid k
  place_last x k e a =
      place_at side grid x (suc k) (omega arith) (λ i q. let z : i ≡ k = omega arith in rw z a) (λ i p m. absurd (omega arith))
      ∙ rw (eq-eqb (suc k) grid (omega arith)) refl

-- ---- the four ways of `locate`: t is the tile of x, and r its centre

module _ {side grid : ℕ} (fits : Fits side grid) {x t : ℕ} (h : x < side) (e : t ≡ ((x + 1) * grid - 1) / side) {r : ℕ} (c : r ≡ centre_of side grid t) where
  -- the centre before is not behind x
  last_reached : (k : ℕ) → k + 1 ≡ t → centre_of side grid k ≤ x
  last_reached k q = let l : edge_of side grid (k + 1) ≤ x = rw q (tile_starts fits h e) in omega (arith, centre_most fits k)

  pub way_first : x < r → t ≡ 0 → place_of side grid x ≡ alone side grid 0
  way_first l z = let m : x < centre_of side grid t = omega arith in place_first fits x (rw z at m)

  pub lower_asks : x < r → t ≢ 0 → Fits side grid × (t - 1 + 1 < grid) × (centre_of side grid (t - 1) ≤ x) × (x < centre_of side grid (t - 1 + 1))
  lower_asks l n = let s : t - 1 + 1 ≡ t = omega arith in (fits, omega (arith, tile_in fits h e), last_reached (t - 1) s, rw s (omega arith))

  pub way_lower : x < r → t ≢ 0 → place_of side grid x ≡ between side grid x (t - 1)
  way_lower l n = let a = lower_asks l n in place_between fits x (t - 1) a.1 a.2 a.3

  pub way_last : r ≤ x → t + 1 ≡ grid → place_of side grid x ≡ alone side grid t
  way_last l q = place_last fits x t q (omega arith)

  pub upper_asks : r ≤ x → t + 1 ≢ grid → Fits side grid × (t + 1 < grid) × (centre_of side grid t ≤ x) × (x < centre_of side grid (t + 1))
  upper_asks l n = (fits, omega (arith, tile_in fits h e), omega arith, omega (arith, tile_ends fits h e, centre_least fits (t + 1)))

  pub way_upper : r ≤ x → t + 1 ≢ grid → place_of side grid x ≡ between side grid x t
  way_upper l n = let a = upper_asks l n in place_between fits x t a.1 a.2 a.3

-- ---- by cases

-- a column before the first centre, from the last centre on, or between two centres
pub record Cases (side grid x : ℕ) (p : Place) (R : Type 0) : Type 0 where
  pub first : x < centre_of side grid 0 → p ≡ alone side grid 0 → R
  pub last : (k : ℕ) → k + 1 ≡ grid → centre_of side grid k ≤ x → p ≡ alone side grid k → R
  pub inner : (k : ℕ) → k + 1 < grid → centre_of side grid k ≤ x → x < centre_of side grid (k + 1) → p ≡ between side grid x k → R

-- each place is one of the three
pub by_cases : {side grid : ℕ} → Fits side grid → {x : ℕ} → x < side → {p : Place} {R : Type 0} → p ≡ place_of side grid x → Cases side grid x p R → R
by_cases {side} {grid} fits {x} h {p} {R} e cases = way (ltb x (centre_of side grid t)) refl
  where
    t : ℕ
    t = ((x + 1) * grid - 1) / side

    low : x < centre_of side grid t → (b : Bool) → eqb t 0 ≡ b → R
    low l true q =
        let z : t ≡ 0 = eqb-true t 0 q in
        cases.first (rw z at l) (e ∙ way_first fits h refl refl l z)
    low l false q =
        let a = lower_asks fits h refl refl l (eqb-false t 0 q) in
        cases.inner (t - 1) a.1 a.2 a.3 (e ∙ way_lower fits h refl refl l (eqb-false t 0 q))

    high : centre_of side grid t ≤ x → (b : Bool) → eqb (t + 1) grid ≡ b → R
    high l true q = cases.last t (eqb-true (t + 1) grid q) l (e ∙ way_last fits h refl refl l (eqb-true (t + 1) grid q))
    high l false q =
        let a = upper_asks fits h refl refl l (eqb-false (t + 1) grid q) in
        cases.inner t a.1 a.2 a.3 (e ∙ way_upper fits h refl refl l (eqb-false (t + 1) grid q))

    way : (b : Bool) → ltb x (centre_of side grid t) ≡ b → R
    way true q = low (ltb-true x (centre_of side grid t) q) (eqb t 0) refl
    way false q = high (ltb-false x (centre_of side grid t) q) (eqb (t + 1) grid) refl

-- ---- soundness

module _ {side grid : ℕ} (fits : Fits side grid) where
  -- a tile of the grid that is used alone
  alone_sound : (k : ℕ) → k < grid → Sound grid 2048 (alone side grid k)
  alone_sound k l = record { weights = omega arith; some = size_some fits k; bound = size_most fits k; lower = l; upper = l }

  -- two tiles, x between their centres
  between_sound : (x k : ℕ) → k + 1 < grid → centre_of side grid k ≤ x → x < centre_of side grid (k + 1) → Sound grid 2048 (between side grid x k)
  between_sound x k l a b = record { weights = omega arith; some = omega (arith, centre_rises fits k); bound = centre_apart fits k; lower = omega arith; upper = l }

  -- each column or row of the film has a sound place: weights that add up to the span, tiles of the grid, a span above 0 and at most 2048
  pub place_sound : {x : ℕ} → x < side → Sound grid 2048 (place_of side grid x)
  place_sound {x} h =
      by_cases fits h refl
      record {
        first = λ l q. rw q (alone_sound 0 (omega (arith, fits.some)));
        last = λ k n l q. rw q (alone_sound k (omega arith));
        inner = λ k n l m q. rw q (between_sound x k n l m);
      }

-- ---- columns between the same tiles

module _ {side grid : ℕ} (fits : Fits side grid) {x : ℕ} (h : x < side) {p : Place} (e : p ≡ place_of side grid x) where
  -- the run between two tiles, to the next centre
  pub run_two : p.lower < p.upper → SameTiles side grid x p p.lowerweight
  run_two l =
      by_cases fits h e
      record {
        first = λ m q. absurd (omega (arith, ap (λ z. z.lower) q, ap (λ z. z.upper) q));
        last = λ k n m q. absurd (omega (arith, ap (λ z. z.lower) q, ap (λ z. z.upper) q));
        inner = λ k n a b q.
            let w : p.lowerweight ≡ centre_of side grid (k + 1) - x = ap (λ z. z.lowerweight) q in
            record {
              some = omega arith;
              most = le_refl p.lowerweight;
              two = λ _ j m. inner_moved k n a j (omega arith) ∙ ap (λ z. moved z j) (sym q);
              one = λ m. absurd (omega arith);
            };
      }
    where
      inner_moved : (k : ℕ) → k + 1 < grid → centre_of side grid k ≤ x → (j : ℕ) → x + j < centre_of side grid (k + 1) → place_of side grid (x + j) ≡ moved (between side grid x k) j
      inner_moved k n a j r =
          let low : centre_of side grid (k + 1) - (x + j) ≡ centre_of side grid (k + 1) - x - j = omega arith in
          let up : x + j - centre_of side grid k ≡ x - centre_of side grid k + j = omega arith in
          place_between fits (x + j) k n (omega arith) r ∙ rw (low, up) refl

  -- one tile used alone for n columns
  run_one : {n : ℕ} (k : ℕ) → p ≡ alone side grid k → 0 < n → n ≤ size_of side grid k → ((j : ℕ) → j < n → place_of side grid (x + j) ≡ alone side grid k) → SameTiles side grid x p n
  run_one k q s m f =
      record {
        some = s;
        most = rw q m;
        two = λ l. absurd (omega (arith, ap (λ z. z.lower) q, ap (λ z. z.upper) q));
        one = λ l. (omega (arith, ap (λ z. z.lower) q, ap (λ z. z.upper) q), λ j r. f j r ∙ sym q);
      }

  -- the run of the last tile, to the film's edge
  pub run_last : p.upper ≤ p.lower → p.lower + 1 ≡ grid → SameTiles side grid x p (side - x)
  run_last l g =
      by_cases fits h e
      record {
        first = λ m q. absurd (omega (arith, ap (λ z. z.lower) q, fits.some));
        last = λ k n m q.
            let end : edge_of side grid (k + 1) ≡ side = rw n (edge_last fits) in
            run_one k q (omega arith) (omega (arith, size_ends fits k, centre_least fits k)) (λ j r. place_last fits (x + j) k n (omega arith));
        inner = λ k n a b q. absurd (omega (arith, ap (λ z. z.lower) q, ap (λ z. z.upper) q));
      }

  -- the run of the first tile, to its centre
  pub run_first : p.upper ≤ p.lower → p.lower + 1 ≢ grid → (x < centre_of side grid 0) × SameTiles side grid x p (centre_of side grid 0 - x)
  run_first l g =
      by_cases fits h e
      record {
        first = λ m q. (
          m,
          run_one 0 q (omega arith) (omega (arith, edge_first side grid, size_ends fits 0, centre_most fits 0)) (λ j r. place_first fits (x + j) (omega arith)),
        );
        last = λ k n m q. absurd (g (ap (λ z. z.lower + 1) q ∙ n));
        inner = λ k n a b q. absurd (omega (arith, ap (λ z. z.lower) q, ap (λ z. z.upper) q));
      }

-- a run's first columns are a run
pub run_shorter : {side grid x n k : ℕ} {p : Place} → SameTiles side grid x p n → 0 < k → k ≤ n → SameTiles side grid x p k
run_shorter run s l =
    record {
      some = s;
      most = omega (arith, run.most);
      two = λ h j m. run.two h j (omega arith);
      one = λ h. ((run.one h).0, λ j m. (run.one h).1 j (omega arith));
    }

-- what is worked out of the moved weights of a run is worked out of each column's own place, if one tile alone gives the same wherever its weights are moved to
pub run_place : {R : Type 0} (f : Place → R) {side grid x n : ℕ} {p : Place} → SameTiles side grid x p n → (j : ℕ) → j < n → (p.upper ≡ p.lower → f (moved p j) ≡ f p)
    → f (moved p j) ≡ f (place_of side grid (x + j))
run_place f {side} {grid} {x} {n} {p} run j l same = tiles (ltb p.lower p.upper) refl
  where
    tiles : (b : Bool) → ltb p.lower p.upper ≡ b → f (moved p j) ≡ f (place_of side grid (x + j))
    tiles true e = ap f (sym (run.two (ltb-true p.lower p.upper e) j l))
    tiles false e = let o : p.upper ≤ p.lower = ltb-false p.lower p.upper e in same (run.one o).0 ∙ ap f (sym ((run.one o).1 j l))

-- ---- what `run` answers

module _ (side grid x : ℕ) (p : Place) where
  pub length_two : p.lower < p.upper → p.lowerweight ≡ length_of side grid x p
  unfolding length_of
  length_two h = rw (lt-ltb p.lower p.upper h) refl

  module _ (one : p.upper ≤ p.lower) where
    pub length_last : p.lower + 1 ≡ grid → side - x ≡ length_of side grid x p
    unfolding length_of
    length_last e = rw (le-ltb p.lower p.upper one, eq-eqb (p.lower + 1) grid e) refl

    pub length_first : (p.lower + 1 ≡ grid → ⊥) → centre_of side grid 0 - x ≡ length_of side grid x p
    unfolding length_of
    length_first n = rw (le-ltb p.lower p.upper one, ne_eqb (p.lower + 1) grid n) refl
