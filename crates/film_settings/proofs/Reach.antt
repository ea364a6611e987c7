-- Refusal 31: where it is given, the bins are more than the greys of the range; and where they are, or there is no range, the number is 31 or one of 1 to 9.
-- Assumes nothing.
use Prim.Native.Nat.{ℕ, zero, suc, ◌+◌, ◌-◌, ◌≤◌, ◌<◌}
use mathlib.Core.Bool.{Bool, true, false, ◌||◌}
use mathlib.Core.List.{List, [], ◌∷◌, ◌++◌}
use mathlib.Core.Logic.{◌≢◌, ◌⊎◌, inl, inr}
use mathlib.Core.Path.{◌≡◌, refl}
use native.Mathlib.Omega.{arith}
use lib.Dec.{eqb, leb, ltb}
use borrow.Author.Tests.{ltb-true, ltb-false, leb-true, leb-false, eqb-true}
use Rattle.base_lists.specs.Lists.{all}
use Rattle.base_lists.proofs.Tabs.{and_left, and_right}
use Rattle.base_rows.specs.Refuse.{Row, row, first, numbers_of, Each, Numbered}
use Rattle.base_rows.proofs.Walk.{only_front, only_behind, only_one, first_front, first_none, first_both, first_rest, each_first, each_append}
use Rattle.film_settings.specs.declared.Settings.{Settings}
use Rattle.film_settings.specs.Settings.{bins_of, side_rows, length_rows, size_rows, grid_rows, range_rows, clip_rows, grey_rows, room_rows, setting_rows, shared_rows}
use Rattle.film_settings.proofs.Ready.{grid_numbers, range_numbers, room_numbers, size_numbered, grid_numbered, range_numbered}
use Rattle.film_settings.proofs.Parts.{size_numbers}

-- of the rows 7 to 9 and 31
pub range_31 : (s : Settings) → first (range_rows s) ≡ 31 → s.max - s.min + 1 < bins_of s
unfolding all numbers_of range_rows
range_31 s q =
    ltb-true _ _
    (only_one 31 _ refl
    (only_behind 31 (row 7 (ltb 4095 s.max) ∷ row 8 (leb s.max s.min) ∷ row 9 (eqb s.bins 1) ∷ row 9 (ltb 4096 s.bins) ∷ [])
    (row 31 (ltb (s.max - s.min + 1) (bins_of s)) ∷ []) refl q))

-- of the rows 1 to 9, 31 and 10
pub setting_31 : (w h size : ℕ) (s : Settings) → first (setting_rows w h size s) ≡ 31 → s.max - s.min + 1 < bins_of s
unfolding all numbers_of setting_rows size_rows side_rows length_rows grey_rows clip_rows
setting_31 w h size s q =
    range_31 s
    (only_front 31 (range_rows s) (clip_rows s) refl refl
    (only_behind 31 (grid_rows w h s) (grey_rows s) (rw (grid_numbers w h s) refl) (only_behind 31 (size_rows w h size) _ refl q)))

-- and of these and 11
pub shared_31 : (w h size : ℕ) (s : Settings) (room : ℕ) → first (shared_rows w h size s room) ≡ 31 → s.max - s.min + 1 < bins_of s
unfolding all shared_rows
shared_31 w h size s room q = setting_31 w h size s (only_front 31 (setting_rows w h size s) (room_rows s room) refl (rw (room_numbers s room) refl) q)

-- ---- the other way

-- where none of 7 to 9 and 31 applies, there is a range, and the bins are no more than its greys
pub range_reach : (s : Settings) → first (range_rows s) ≡ 0 → (s.min < s.max) × (bins_of s ≤ s.max - s.min + 1)
unfolding range_rows
range_reach s e = let n = first_none _ (range_numbered s) e in (leb-false _ _ n.1.0, ltb-false _ _ n.1.1.1.1.0)

-- one of 1 to 9, or 31
abbrev pub Early : ℕ → Type 0
Early n = (0 < n) × ((n ≤ 9) ⊎ (n ≡ 31))

-- the same as a test, of 0 too
abbrev low : ℕ → Bool
low n = leb n 9 || eqb n 31

-- one of 7 to 9 and 31 applies: a table that has 3 to 6, these and whatever behind some of 1 to 9 gives one of them all
pub range_early : (front rest : List Row) → Numbered front → Each (λ n. leb n 9) front → (w h : ℕ) (s : Settings) → first (range_rows s) ≢ 0
    → Early (first (front ++ (grid_rows w h s ++ (range_rows s ++ rest))))
unfolding all
range_early front rest above nines w h s some = rw cut (early (first table) refl told)
  where
    table : List Row
    table = front ++ (grid_rows w h s ++ range_rows s)

    -- what stands behind does not count
    cut : first (front ++ (grid_rows w h s ++ (range_rows s ++ rest))) ≡ first table
    cut =
        first_rest front (grid_rows w h s ++ (range_rows s ++ rest)) (grid_rows w h s ++ range_rows s) above
        (λ _. first_rest (grid_rows w h s) (range_rows s ++ rest) (range_rows s) (grid_numbered w h s) (λ _. first_front (range_rows s) rest some))

    told : low (first table) ≡ true
    told =
        each_first low table refl
        (each_append low front (grid_rows w h s ++ range_rows s) (each_more front nines)
        (each_append low (grid_rows w h s) (range_rows s) (rw (grid_numbers w h s) refl) (rw (range_numbers s) refl)))
      where
        all_more : (ns : List ℕ) → all (λ n. leb n 9) ns ≡ true → all low ns ≡ true
        all_more [] h = refl
        all_more (n ∷ ns) h = rw (and_left (leb n 9) (all (λ n. leb n 9) ns) h) (all_more ns (and_right (leb n 9) (all (λ n. leb n 9) ns) h))

        each_more : (rows : List Row) → Each (λ n. leb n 9) rows → Each low rows
        each_more rows h = all_more (numbers_of rows) h

    early : (n : ℕ) → first table ≡ n → low n ≡ true → Early n
    early n e q = (above_zero n e, which (leb n 9) refl q)
      where
        above_zero : (n : ℕ) → first table ≡ n → 0 < n
        above_zero zero z =
            absurd (some (first_both (grid_rows w h s) (range_rows s) (grid_numbered w h s) (first_both front (grid_rows w h s ++ range_rows s) above z).1).1)
        above_zero (suc n) z = omega arith

        which : (b : Bool) → leb n 9 ≡ b → (b || eqb n 31) ≡ true → (n ≤ 9) ⊎ (n ≡ 31)
        which true l k = inl (leb-true n 9 l)
        which false l k = inr (eqb-true n 31 k)

-- so does the table that all calls with a picture begin with
pub setting_early : (w h size : ℕ) (s : Settings) → first (range_rows s) ≢ 0 → Early (first (setting_rows w h size s))
unfolding all setting_rows grey_rows
setting_early w h size s some = range_early (size_rows w h size) (clip_rows s) (size_numbered w h size) (rw (size_numbers w h size) refl) w h s some
