-- Order 6, films that fitted before: each call's table gives the number that it gave with the old 5 and 6, and a film that the old table let pass has sides that are multiples of its grid.
-- Assumes nothing.
use Prim.Native.Nat.{ℕ, ◌*◌, ◌%◌, ◌<◌}
use mathlib.Core.Bool.{not}
use mathlib.Core.List.{List, [], ◌∷◌, ◌++◌}
use mathlib.Core.Path.{◌≡◌, refl, ap, ◌∙◌}
use lib.Dec.{ltb, eqb}
use lib.ListN.{length}
use borrow.Author.Tests.{eq-eqb, eqb-true, not-false}
use Rattle.base_lists.specs.Lists.{all, every, total}
use Rattle.base_rows.specs.Refuse.{Row, row, first, numbers_of, Numbered}
use Rattle.base_rows.proofs.Walk.{first_none, first_both, first_same, first_rest, each_append}
use Rattle.film_settings.specs.declared.Settings.{Settings}
use Rattle.film_settings.specs.declared.MapRecord.{MapRecord}
use Rattle.film_settings.specs.declared.Window.{Window}
use Rattle.film_settings.specs.Settings.{side_rows, size_rows, grid_rows, range_rows, grey_rows, room_rows, setting_rows, shared_rows}
use Rattle.film_settings.proofs.Ready.{side_numbered, size_numbered, grid_numbered, setting_numbered, shared_numbered, range_numbered, sides_some, shared_parts}
use Rattle.film_settings.proofs.Parts.{grey_numbered, room_numbered, setting_parts, size_both, grid_long}
use Rattle.film_prepare.specs.Prepare.{work_rows, listed_rows, prepare_rows, enhance_rows}
use Rattle.film_prepare.proofs.Table.{table_parts, over_parts}
use Rattle.film_count.specs.Counting.{counts_in, counts_rows, outside_rows, picture_rows, count_rows}
use Rattle.film_count.proofs.Tables.{picture_numbered, count_rows_lem}
use Rattle.film_map.specs.Counts.{adds_up_of, tiling_rows, lent_rows, map_rows_of}
use Rattle.film_map.proofs.Tables.{tiling_numbered, map_rows}
use Rattle.film_draw.specs.Draw.{draw_rows}
use Rattle.film_draw.proofs.Tables.{draw_rows_lem}
use Rattle.promise_films.specs.Fitted.{Fitted, fit_pixels}
use Rattle.promise_films.proofs.Fitted.{fitted_not_short}
use Rattle.promise_fitted.specs.Before.{fit_grid_rows, fit_shared_rows, fit_prepare_rows, fit_enhance_rows, fit_draw_rows, fit_count_rows, fit_map_rows}

-- ---- 3 to 6

fit_grid_numbered : (w h : ℕ) (s : Settings) → Numbered (fit_grid_rows w h s)
unfolding all numbers_of fit_grid_rows
fit_grid_numbered w h s = refl

-- what is left of either of a film that fits
grid_same : (w h : ℕ) (s : Settings) → Fitted w h s → 0 < w → 0 < h → first (grid_rows w h s) ≡ first (fit_grid_rows w h s)
unfolding first fit_grid_rows
grid_same w h s fitted wide high =
    grid_long w h s (fitted_not_short w s.across wide fitted.columns) (fitted_not_short h s.down high fitted.rows)
    ∙ rw (eq-eqb (w % s.across) 0 fitted.columns, eq-eqb (h % s.down) 0 fitted.rows) refl

-- and what the old rows tell where none applies
fit_grid : (w h : ℕ) (s : Settings) → first (fit_grid_rows w h s) ≡ 0 → Fitted w h s
unfolding fit_grid_rows
fit_grid w h s e =
    let n = first_none _ (fit_grid_numbered w h s) e in
    record { columns = eqb-true _ _ (not-false _ n.1.1.1.1.0); rows = eqb-true _ _ (not-false _ n.1.1.1.1.1.0) }

-- ---- the tables

module _ (w h : ℕ) (s : Settings) where
  -- behind the sides, in front of whatever
  behind_sides : (sides rest : List Row) → Numbered sides → Fitted w h s → (first sides ≡ 0 → (0 < w) × (0 < h))
      → first (sides ++ (grid_rows w h s ++ rest)) ≡ first (sides ++ (fit_grid_rows w h s ++ rest))
  behind_sides sides rest numbered fitted some =
      first_rest sides (grid_rows w h s ++ rest) (fit_grid_rows w h s ++ rest) numbered
      (λ z. first_same (grid_rows w h s) (fit_grid_rows w h s) rest (grid_numbered w h s) (fit_grid_numbered w h s) (grid_same w h s fitted (some z).0 (some z).1))

  fit_numbered : (sides rest : List Row) → Numbered sides → Numbered rest → Numbered (sides ++ (fit_grid_rows w h s ++ rest))
  fit_numbered sides rest a b = each_append (ltb 0) sides (fit_grid_rows w h s ++ rest) a (each_append (ltb 0) (fit_grid_rows w h s) rest (fit_grid_numbered w h s) b)

  fit_shared_numbered : (size room : ℕ) → Numbered (fit_shared_rows w h size s room)
  unfolding fit_shared_rows
  fit_shared_numbered size room =
      each_append (ltb 0) (size_rows w h size ++ (fit_grid_rows w h s ++ grey_rows s)) (room_rows s room) (fit_numbered (size_rows w h size) (grey_rows s) (size_numbered w h size) (grey_numbered s)) (room_numbered s room)

  module _ (fitted : Fitted w h s) where
    sizes_some : (size : ℕ) → first (size_rows w h size) ≡ 0 → (0 < w) × (0 < h)
    sizes_some size z = sides_some w h (size_both w h size z).0

    -- the rows that all calls with a picture share
    shared_same : (size room : ℕ) → first (shared_rows w h size s room) ≡ first (fit_shared_rows w h size s room)
    unfolding fit_shared_rows
    shared_same size room =
        ap first (shared_parts w h size s room)
        ∙ first_same (setting_rows w h size s) (size_rows w h size ++ (fit_grid_rows w h s ++ grey_rows s)) (room_rows s room) (setting_numbered w h size s)
        (fit_numbered (size_rows w h size) (grey_rows s) (size_numbered w h size) (grey_numbered s))
        (ap first (setting_parts w h size s) ∙ behind_sides (size_rows w h size) (grey_rows s) (size_numbered w h size) fitted (sizes_some size))

    -- with whatever behind
    behind_shared : (size room : ℕ) (rest : List Row) → first (shared_rows w h size s room ++ rest) ≡ first (fit_shared_rows w h size s room ++ rest)
    behind_shared size room rest =
        first_same (shared_rows w h size s room) (fit_shared_rows w h size s room) rest (shared_numbered w h size s room) (fit_shared_numbered size room) (shared_same size room)

    pub prepare_same : (pic : List ℕ) (room scratch list : ℕ) → first (prepare_rows w h pic s room scratch list) ≡ first (fit_prepare_rows w h pic s room scratch list)
    prepare_same pic room scratch list = ap first (table_parts w h pic s room scratch list) ∙ behind_shared (length pic) room (listed_rows pic s scratch list)

    pub enhance_same : (pic : List ℕ) (room scratch : ℕ) → first (enhance_rows w h pic s room scratch) ≡ first (fit_enhance_rows w h pic s room scratch)
    enhance_same pic room scratch = ap first (over_parts w h pic s room scratch) ∙ behind_shared (length pic) room (work_rows pic s scratch)

    pub draw_same : (film : ℕ) (pic : List ℕ) (r : MapRecord) (win : Window) (m : List ℕ) (room : ℕ) → first (draw_rows film w h pic s r win m room) ≡ first (fit_draw_rows film w h pic s r win m room)
    draw_same film pic r win m room = ap first (draw_rows_lem film w h pic s r win m room) ∙ behind_shared (length pic) (length m) _

    pub count_same : (pic : List ℕ) (size : ℕ) → first (count_rows w h pic s size) ≡ first (fit_count_rows w h pic s size)
    unfolding picture_rows
    count_same pic size =
        ap first (count_rows_lem w h pic s size)
        ∙ first_same (picture_rows w h (length pic) s) (size_rows w h (length pic) ++ (fit_grid_rows w h s ++ range_rows s)) (counts_rows s size ++ outside_rows pic s) (picture_numbered w h (length pic) s)
        (fit_numbered (size_rows w h (length pic)) (range_rows s) (size_numbered w h (length pic)) (range_numbered s))
        (behind_sides (size_rows w h (length pic)) (range_rows s) (size_numbered w h (length pic)) fitted (sizes_some (length pic)))

    -- mapping's, where the tiles' pixels are those of before
    pub map_same : (cs : List ℕ) (room scratch list : ℕ) → (first (tiling_rows w h s) ≡ 0 → adds_up_of w h s cs ≡ every (s.across * s.down) (λ k. eqb (total (counts_in s cs k)) (fit_pixels w h s)))
        → first (map_rows_of w h s cs room scratch list) ≡ first (fit_map_rows w h s cs room scratch list)
    unfolding tiling_rows
    map_same cs room scratch list sums =
        ap first (map_rows w h s cs room scratch list)
        ∙ first_rest (tiling_rows w h s) (lent_rows s room scratch list (length cs) ++ (row 34 (not (adds_up_of w h s cs)) ∷ [])) _ (tiling_numbered w h s)
        (λ z. ap (λ b. first (lent_rows s room scratch list (length cs) ++ (row 34 (not b) ∷ []))) (sums z))
        ∙ first_same (tiling_rows w h s) (side_rows w h ++ (fit_grid_rows w h s ++ grey_rows s)) _ (tiling_numbered w h s) (fit_numbered (side_rows w h) (grey_rows s) (side_numbered w h) (grey_numbered s))
        (behind_sides (side_rows w h) (grey_rows s) (side_numbered w h) fitted (sides_some w h))

  -- the old table let the film pass: its sides are multiples of the grid
  pub old_fitted : (size room : ℕ) (rest : List Row) → first (fit_shared_rows w h size s room ++ rest) ≡ 0 → Fitted w h s
  unfolding fit_shared_rows
  old_fitted size room rest e =
      let a = first_both (fit_shared_rows w h size s room) rest (fit_shared_numbered size room) e in
      let b = first_both (size_rows w h size ++ (fit_grid_rows w h s ++ grey_rows s)) (room_rows s room) (fit_numbered (size_rows w h size) (grey_rows s) (size_numbered w h size) (grey_numbered s)) a.0 in
      let c = first_both (size_rows w h size) (fit_grid_rows w h s ++ grey_rows s) (size_numbered w h size) b.0 in
      fit_grid w h s (first_both (fit_grid_rows w h s) (grey_rows s) (fit_grid_numbered w h s) c.1).0
