-- Counting's table: its numbers, how the functions ask it, and what it tells where none of its rows applies.
-- Assumes nothing.
use Prim.Native.Nat.{ℕ, ◌+◌, ◌-◌, ◌*◌, ◌≤◌, ◌<◌}
use mathlib.Core.Bool.{Bool, true, false, not, cond}
use mathlib.Core.List.{List, [], ◌∷◌, ◌++◌, append-nil}
use mathlib.Core.Logic.{◌≢◌, ⊎_elim}
use mathlib.Core.Path.{◌≡◌, refl, sym, ap, ◌∙◌}
use native.Mathlib.Omega.{arith}
use lib.Dec.{ltb}
use lib.ListN.{length}
use borrow.Author.Tests.{lt-ltb, le-ltb, ltb-false, not-false}
use Rattle.base_lists.specs.Lists.{all}
use Rattle.base_lists.proofs.Orders.{lt_or_ge}
use Rattle.base_range.specs.Scan.{within}
use Rattle.base_rows.specs.Refuse.{first, numbers_of, Numbered}
use Rattle.base_rows.proofs.Walk.{first_front, first_none, first_both, only_front, only_behind, numbers_append, each_append, first_never, behind}
use Rattle.film_settings.specs.declared.Settings.{Settings}
use Rattle.film_settings.specs.Settings.{bins_of, entries_of, size_rows, grid_rows, range_rows, room_rows, Tiled}
use Rattle.film_settings.proofs.Ready.{grid_numbers, range_numbers, size_numbered, grid_numbered, range_numbered, tiled, whole_length, room_fits, fits_room}
use Rattle.film_settings.proofs.Parts.{size_numbers, size_both}
use Rattle.film_settings.proofs.Reach.{range_31, Early, range_early}
use Rattle.film_count.specs.Counting.{counts_rows, outside_rows, picture_rows, count_rows, LentAsks, CountReady}

-- ---- the numbers, in the order that order 5 gives them

-- "1 to 9 with 31 after 9"
pub picture_numbers : (w h size : ℕ) (s : Settings) → numbers_of (picture_rows w h size s) ≡ numbers_of (size_rows w h size) ++ (numbers_of (grid_rows w h s) ++ numbers_of (range_rows s))
unfolding picture_rows
picture_numbers w h size s =
    numbers_append (size_rows w h size) (grid_rows w h s ++ range_rows s) ∙ ap (λ ns. numbers_of (size_rows w h size) ++ ns) (numbers_append (grid_rows w h s) (range_rows s))

-- 33
pub counts_numbers : (s : Settings) (size : ℕ) → numbers_of (counts_rows s size) ≡ 33 ∷ []
unfolding numbers_of counts_rows
counts_numbers s size = refl

-- "then 33, then 13"
pub count_numbers : (w h : ℕ) (pic : List ℕ) (s : Settings) (size : ℕ) → numbers_of (count_rows w h pic s size) ≡ numbers_of (picture_rows w h (length pic) s) ++ (33 ∷ 13 ∷ [])
unfolding numbers_of count_rows counts_rows outside_rows
count_numbers w h pic s size = numbers_append (picture_rows w h (length pic) s) (counts_rows s size ++ outside_rows pic s)

-- counting never looks at the clip: 10 is not among them
pub count_never_10 : (w h : ℕ) (pic : List ℕ) (s : Settings) (size : ℕ) → first (count_rows w h pic s size) ≢ 10
unfolding all
count_never_10 w h pic s size =
    first_never 10 (count_rows w h pic s size) refl
    (rw (count_numbers w h pic s size, picture_numbers w h (length pic) s, size_numbers w h (length pic), grid_numbers w h s, range_numbers s) refl)

-- ---- the numbers are above 0

pub counts_numbered : (s : Settings) (size : ℕ) → Numbered (counts_rows s size)
unfolding all numbers_of counts_rows
counts_numbered s size = refl

pub picture_numbered : (w h size : ℕ) (s : Settings) → Numbered (picture_rows w h size s)
unfolding picture_rows
picture_numbered w h size s =
    each_append (ltb 0) (size_rows w h size) (grid_rows w h s ++ range_rows s) (size_numbered w h size)
    (each_append (ltb 0) (grid_rows w h s) (range_rows s) (grid_numbered w h s) (range_numbered s))

-- ---- 33

module _ (s : Settings) (size : ℕ) where
  -- it does not apply: there is an entry for each bin of each tile
  pub counts_fits : first (counts_rows s size) ≡ 0 → entries_of s ≤ size
  unfolding counts_rows
  counts_fits e = ltb-false _ _ (first_none _ (counts_numbered s size) e).0

  -- and the other way
  pub fits_counts : entries_of s ≤ size → first (counts_rows s size) ≡ 0
  unfolding first counts_rows
  fits_counts l = rw (le-ltb size (entries_of s) l) refl

  -- it is asked as 11 is of a map buffer: where that applies
  pub counts_short : {r : ℕ} → r ≡ first (room_rows s size) → (r ≡ 0 → ⊥) → 33 ≡ first (counts_rows s size)
  unfolding first counts_rows
  counts_short e z = ⊎_elim (λ l. rw (lt-ltb size (entries_of s) l) refl) (λ l. absurd (z (e ∙ fits_room s size l))) (lt_or_ge size (entries_of s))

  -- and where it does not
  pub counts_enough : {r : ℕ} → r ≡ first (room_rows s size) → r ≡ 0 → 0 ≡ first (counts_rows s size)
  counts_enough e z = sym (fits_counts (room_fits s size (sym e ∙ z)))

-- ---- 13, by what was found

-- 13
pub outside_row_lem : (pic : List ℕ) (s : Settings) (t : Bool) → t ≡ all (within s.min s.max) pic → cond t 0 13 ≡ first (outside_rows pic s)
unfolding first outside_rows
outside_row_lem pic s true e = ap (λ b. cond (not b) 13 0) e
outside_row_lem pic s false e = ap (λ b. cond (not b) 13 0) e

-- ---- what is known where none applies

-- none of 1 to 9 and 31
pub picture_tiled : (w h size : ℕ) (s : Settings) → first (picture_rows w h size s) ≡ 0 → Tiled w h s × (size ≡ w * h)
unfolding picture_rows
picture_tiled w h size s e =
    let a = first_both (size_rows w h size) _ (size_numbered w h size) e in
    let b = first_both (grid_rows w h s) _ (grid_numbered w h s) a.1 in
    let c = size_both w h size a.0 in
    (tiled w h s c.0 b.0 b.1, whole_length w h size c.1)

-- settings that are not refused
pub lent_asks : {w h : ℕ} {s : Settings} → Tiled w h s → LentAsks s
lent_asks known = record { across = known.acrossmost; down = known.downmost; bins = known.binsmost }

-- none of counting's: none of 1 and 2, of 3 to 6, and of 7 to 9 and 31
pub count_parts : (w h : ℕ) (pic : List ℕ) (s : Settings) (size : ℕ) → first (count_rows w h pic s size) ≡ 0
    → (first (size_rows w h (length pic)) ≡ 0) × (first (grid_rows w h s) ≡ 0) × (first (range_rows s) ≡ 0)
unfolding count_rows picture_rows
count_parts w h pic s size e =
    let a = first_both (picture_rows w h (length pic) s) _ (picture_numbered w h (length pic) s) e in
    let b = first_both (size_rows w h (length pic)) _ (size_numbered w h (length pic)) a.0 in
    let c = first_both (grid_rows w h s) (range_rows s) (grid_numbered w h s) b.1 in
    (b.0, c.0, c.1)

-- and the other way, where there is an entry for each bin of each tile and each pixel lies in Min to Max
pub parts_count : (w h : ℕ) (pic : List ℕ) (s : Settings) (size : ℕ) → first (size_rows w h (length pic)) ≡ 0 → first (grid_rows w h s) ≡ 0 → first (range_rows s) ≡ 0
    → entries_of s ≤ size → all (within s.min s.max) pic ≡ true → first (count_rows w h pic s size) ≡ 0
unfolding count_rows picture_rows
parts_count w h pic s size a b c l g =
    let early : 0 ≡ first (picture_rows w h (length pic) s) =
    behind (size_rows w h (length pic)) _ (size_numbered w h (length pic)) (sym a) refl (behind (grid_rows w h s) (range_rows s) (grid_numbered w h s) (sym b) refl (sym c)) in
    sym
    (behind (picture_rows w h (length pic) s) _ (picture_numbered w h (length pic) s) early refl
    (behind (counts_rows s size) (outside_rows pic s) (counts_numbered s size) (sym (fits_counts s size l)) refl (outside_row_lem pic s true (sym g))))

-- what is known then
pub count_ready : (w h : ℕ) (pic : List ℕ) (s : Settings) (size : ℕ) → first (count_rows w h pic s size) ≡ 0 → CountReady w h pic s size
unfolding count_rows outside_rows all numbers_of
count_ready w h pic s size e =
    let a = first_both (picture_rows w h (length pic) s) _ (picture_numbered w h (length pic) s) e in
    let b = first_both (counts_rows s size) _ (counts_numbered s size) a.1 in
    let (known, whole) = picture_tiled w h (length pic) s a.0 in
    record { tiled = known; whole = whole; fitting = counts_fits s size b.0; greys = not-false _ (first_none _ refl b.1).0 }

-- ---- the table, part by part

pub count_rows_lem : (w h : ℕ) (pic : List ℕ) (s : Settings) (size : ℕ)
    → count_rows w h pic s size ≡ (size_rows w h (length pic) ++ (grid_rows w h s ++ range_rows s)) ++ (counts_rows s size ++ outside_rows pic s)
unfolding count_rows picture_rows
count_rows_lem w h pic s size = refl

-- ---- where the bins are more than the greys of the range, or there is no range

-- 31, or one of 1 to 9
pub count_early : (w h : ℕ) (pic : List ℕ) (s : Settings) (size : ℕ) → first (range_rows s) ≢ 0 → Early (first (count_rows w h pic s size))
unfolding all count_rows picture_rows
count_early w h pic s size some =
    let early : Early (first (picture_rows w h (length pic) s)) =
    rw (append-nil (range_rows s)) at (range_early (size_rows w h (length pic)) [] (size_numbered w h (length pic)) (rw (size_numbers w h (length pic)) refl) w h s some) in
    rw (first_front (picture_rows w h (length pic) s) (counts_rows s size ++ outside_rows pic s) (λ z. omega (arith, early.0, z))) early

-- and 31 is given only there
pub count_31 : (w h : ℕ) (pic : List ℕ) (s : Settings) (size : ℕ) → first (count_rows w h pic s size) ≡ 31 → s.max - s.min + 1 < bins_of s
unfolding all numbers_of count_rows picture_rows counts_rows outside_rows
count_31 w h pic s size q =
    range_31 s
    (only_behind 31 (grid_rows w h s) (range_rows s) (rw (grid_numbers w h s) refl)
    (only_behind 31 (size_rows w h (length pic)) (grid_rows w h s ++ range_rows s) (rw (size_numbers w h (length pic)) refl)
    (only_front 31 (picture_rows w h (length pic) s) (counts_rows s size ++ outside_rows pic s) refl refl q)))
