-- The rows of around: their numbers, how 39, 12, 17 and 13 are asked, and what they tell where none of them applies.
-- Assumes nothing.
use Prim.Native.Nat.{ℕ, ◌*◌, ◌%◌, ◌≤◌, ◌<◌}
use mathlib.Core.Bool.{Bool, true, false, cond}
use mathlib.Core.List.{List, [], ◌∷◌, ◌++◌}
use mathlib.Core.Logic.{◌≢◌}
use mathlib.Core.Path.{◌≡◌, refl, sym, ◌∙◌}
use native.Mathlib.Omega.{arith}
use lib.Dec.{ltb, eqb}
use lib.ListN.{length}
use borrow.Author.Tests.{lt-ltb, le-ltb, ltb-false, eqb-true, eqb-false, ne_eqb, eq-eqb, not-false}
use Rattle.base_rows.specs.Refuse.{row, first, numbers_of, Numbered}
use Rattle.base_rows.proofs.Walk.{front, behind, first_none, first_never, first_both, numbers_append}
use Rattle.base_lists.specs.Lists.{all}
use Rattle.base_range.specs.Scan.{within}
use Rattle.tile_count.specs.Tally.{Scale}
use Rattle.film_settings.specs.declared.Settings.{Settings}
use Rattle.film_settings.specs.Settings.{bins_of, size_rows, range_rows, grey_rows}
use Rattle.film_settings.proofs.Ready.{size_numbered, sides_within, sides_most, ranged, whole_length, clip_fair}
use Rattle.film_settings.proofs.Parts.{size_numbers, grey_numbers, grey_numbered, size_both, grey_both}
use Rattle.film_around.specs.Around.{region_rows, around_work_rows, around_rows, AroundReady}

-- ---- 39

module _ (side : ℕ) where
  -- an even side
  pub region_even : side % 2 ≡ 0 → 39 ≡ first (region_rows side)
  unfolding first region_rows
  region_even e = let q : eqb (side % 2) 0 ≡ true = eq-eqb (side % 2) 0 e in rw q refl

  module _ (odd : side % 2 ≡ 0 → ⊥) where
    is_odd : eqb (side % 2) 0 ≡ false
    is_odd = ne_eqb (side % 2) 0 odd

    -- one below 3
    pub region_small : side < 3 → 39 ≡ first (region_rows side)
    unfolding first region_rows
    region_small l = let q : ltb side 3 ≡ true = lt-ltb side 3 l in rw (is_odd, q) refl

    module _ (least : 3 ≤ side) where
      is_least : ltb side 3 ≡ false
      is_least = le-ltb side 3 least

      -- one above 63
      pub region_large : 63 < side → 39 ≡ first (region_rows side)
      unfolding first region_rows
      region_large l = let q : ltb 63 side ≡ true = lt-ltb 63 side l in rw (is_odd, is_least, q) refl

      -- one that the order has
      pub region_none : side ≤ 63 → 0 ≡ first (region_rows side)
      unfolding first region_rows
      region_none l = let q : ltb 63 side ≡ false = le-ltb 63 side l in rw (is_odd, is_least, q) refl

-- its numbers
pub region_numbers : (side : ℕ) → numbers_of (region_rows side) ≡ 39 ∷ 39 ∷ 39 ∷ []
unfolding numbers_of region_rows
region_numbers side = refl

-- all above 0
pub region_numbered : (side : ℕ) → Numbered (region_rows side)
unfolding all
region_numbered side = rw (region_numbers side) refl

-- ---- 12, 17 and 13

module _ (w h : ℕ) (pic : List ℕ) (s : Settings) (scratch target : ℕ) where
  -- the numbers, in their order
  pub around_work_numbers : numbers_of (around_work_rows w h pic s scratch target) ≡ 12 ∷ 17 ∷ 13 ∷ []
  unfolding numbers_of around_work_rows
  around_work_numbers = refl

  module _ {b : ℕ} (e : b ≡ bins_of s) where
    -- 12 applies
    pub around_work_scratch : scratch < 2 * b → 12 ≡ first (around_work_rows w h pic s scratch target)
    unfolding first around_work_rows
    around_work_scratch l = let t : ltb scratch (2 * bins_of s) ≡ true = lt-ltb scratch (2 * bins_of s) (omega arith) in rw t refl

    module _ (l : 2 * b ≤ scratch) where
      fits : ltb scratch (2 * bins_of s) ≡ false
      fits = le-ltb scratch (2 * bins_of s) (omega arith)

      -- 17 does
      pub around_work_target : (target ≡ w * h → ⊥) → 17 ≡ first (around_work_rows w h pic s scratch target)
      unfolding first around_work_rows
      around_work_target n = let q : eqb target (w * h) ≡ false = ne_eqb target (w * h) n in rw (fits, q) refl

      -- neither does, and 13 decides
      pub around_work_greys : target ≡ w * h → (t : Bool) → t ≡ all (within s.min s.max) pic → cond t 0 13 ≡ first (around_work_rows w h pic s scratch target)
      unfolding first around_work_rows
      around_work_greys n true g = let q : eqb target (w * h) ≡ true = eq-eqb target (w * h) n in rw (fits, q, sym g) refl
      around_work_greys n false g = let q : eqb target (w * h) ≡ true = eq-eqb target (w * h) n in rw (fits, q, sym g) refl

  -- with a target of another length they come to 12, and 17 else
  pub around_work_other : (target ≡ w * h → ⊥) → first (around_work_rows w h pic s scratch target) ≡ first (row 12 (ltb scratch (2 * bins_of s)) ∷ row 17 true ∷ [])
  unfolding first around_work_rows
  around_work_other n = rw (ne_eqb target (w * h) n) refl

-- ---- all of them

-- the range and the bins, once 7 to 9 and 31 do not apply
range_scale : (s : Settings) → first (range_rows s) ≡ 0 → Scale s.min s.max (bins_of s)
range_scale s e = let r = ranged s e in record { order = omega (arith, r.1); most = r.0; some = r.2; few = r.3; reach = r.4 }

module _ (w h : ℕ) (pic : List ℕ) (side : ℕ) (s : Settings) (scratch target : ℕ) where
  -- the numbers, in their order
  pub around_table_numbers : numbers_of (around_rows w h pic side s scratch target) ≡ 1 ∷ 1 ∷ 1 ∷ 1 ∷ 2 ∷ 39 ∷ 39 ∷ 39 ∷ 7 ∷ 8 ∷ 9 ∷ 9 ∷ 31 ∷ 10 ∷ 12 ∷ 17 ∷ 13 ∷ []
  unfolding around_rows
  around_table_numbers =
      rw (
        numbers_append (size_rows w h (length pic)) (region_rows side ++ (grey_rows s ++ around_work_rows w h pic s scratch target)),
        numbers_append (region_rows side) (grey_rows s ++ around_work_rows w h pic s scratch target),
        numbers_append (grey_rows s) (around_work_rows w h pic s scratch target),
        size_numbers w h (length pic),
        region_numbers side,
        grey_numbers s,
        around_work_numbers w h pic s scratch target,
      )
      refl

  -- its parts
  pub around_table_parts : around_rows w h pic side s scratch target ≡ size_rows w h (length pic) ++ (region_rows side ++ (grey_rows s ++ around_work_rows w h pic s scratch target))
  unfolding around_rows
  around_table_parts = refl

  -- "11 is never given"
  pub around_table_never_11 : first (around_rows w h pic side s scratch target) ≢ 11
  unfolding all
  around_table_never_11 = first_never 11 (around_rows w h pic side s scratch target) refl (rw around_table_numbers refl)

  -- nor 32: no list is lent
  pub around_table_never_32 : first (around_rows w h pic side s scratch target) ≢ 32
  unfolding all
  around_table_never_32 = first_never 32 (around_rows w h pic side s scratch target) refl (rw around_table_numbers refl)

  -- 1 or 2 applies
  pub around_table_size : {r : ℕ} → r ≡ first (size_rows w h (length pic)) → (r ≡ 0 → ⊥) → r ≡ first (around_rows w h pic side s scratch target)
  unfolding around_rows
  around_table_size e z = front (size_rows w h (length pic)) _ e z

  module _ {a : ℕ} (ea : a ≡ first (size_rows w h (length pic))) (za : a ≡ 0) where
    -- the sides are small enough for 17 to be asked
    pub sides_small : (w ≤ 4096) × (h ≤ 4096)
    sides_small = sides_most w h (size_both w h (length pic) (sym ea ∙ za)).0

    -- 39 does
    pub around_table_region : {r : ℕ} → r ≡ first (region_rows side) → (r ≡ 0 → ⊥) → r ≡ first (around_rows w h pic side s scratch target)
    unfolding around_rows
    around_table_region e z = behind (size_rows w h (length pic)) _ (size_numbered w h (length pic)) ea za (front (region_rows side) _ e z)

    module _ {b : ℕ} (eb : b ≡ first (region_rows side)) (zb : b ≡ 0) where
      -- one of 7 to 9, 31 and 10 does
      pub around_table_grey : {r : ℕ} → r ≡ first (grey_rows s) → (r ≡ 0 → ⊥) → r ≡ first (around_rows w h pic side s scratch target)
      unfolding around_rows
      around_table_grey e z =
          behind (size_rows w h (length pic)) _ (size_numbered w h (length pic)) ea za
          (behind (region_rows side) _ (region_numbered side) eb zb (front (grey_rows s) _ e z))

      -- none of them does, and 12, 17 and 13 decide
      pub around_table_work : {c r : ℕ} → c ≡ first (grey_rows s) → c ≡ 0 → r ≡ first (around_work_rows w h pic s scratch target) → r ≡ first (around_rows w h pic side s scratch target)
      unfolding around_rows
      around_table_work e z q =
          behind (size_rows w h (length pic)) _ (size_numbered w h (length pic)) ea za
          (behind (region_rows side) _ (region_numbered side) eb zb (behind (grey_rows s) _ (grey_numbered s) e z q))

-- what an accepting table tells besides what the work asks
pub record Known (w h : ℕ) (pic : List ℕ) (side : ℕ) (s : Settings) (scratch target : ℕ) : Type 0 where
  pub film : AroundReady w h pic side s
  pub odd : side % 2 ≡ 0 → ⊥
  pub least : 3 ≤ side
  pub enough : 2 * bins_of s ≤ scratch
  pub room : target ≡ w * h

-- none of all applies: what the work below relies on
pub known : (w h : ℕ) (pic : List ℕ) (side : ℕ) (s : Settings) (scratch target : ℕ) → first (around_rows w h pic side s scratch target) ≡ 0 → Known w h pic side s scratch target
unfolding all numbers_of region_rows around_work_rows around_rows
known w h pic side s scratch target e =
    let a = first_both (size_rows w h (length pic)) _ (size_numbered w h (length pic)) e in
    let b = first_both (region_rows side) _ (region_numbered side) a.1 in
    let c = first_both (grey_rows s) (around_work_rows w h pic s scratch target) (grey_numbered s) b.1 in
    let d = size_both w h (length pic) a.0 in
    let g = grey_both s c.0 in
    let n = sides_within w h d.0 in
    let r = first_none (region_rows side) (region_numbered side) b.0 in
    let t = first_none (around_work_rows w h pic s scratch target) refl c.1 in
    record {
      film = record {
        wide = n.0;
        widest = n.1;
        high = n.2;
        highest = n.3;
        few = ltb-false _ _ r.1.1.0;
        scale = range_scale s g.0;
        whole = whole_length w h (length pic) d.1;
        fair = clip_fair s g.1;
        greys = not-false _ t.1.1.0;
      };
      odd = eqb-false _ _ r.0;
      least = ltb-false _ _ r.1.0;
      enough = ltb-false _ _ t.0;
      room = eqb-true _ _ (not-false _ t.1.0);
    }
