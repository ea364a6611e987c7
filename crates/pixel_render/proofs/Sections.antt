-- The turns of a loop that goes through a row section by section.
-- Assumes nothing.
use Prim.Native.Nat.{ℕ, ◌+◌, ◌-◌, ◌≤◌, ◌<◌}
use mathlib.Core.List.{List}
use mathlib.Core.Path.{◌≡◌, ap, ◌∙◌}
use lib.ListN.{length, get_or, take, drop}
use borrow.Rule.Slice.PartMut.{put_mid}
use native.Mathlib.Omega.{arith}
use Rattle.base_lists.specs.Lists.{tab, filled}
use Rattle.base_lists.proofs.Steps.{drop_filled, filled_part}
use Rattle.base_lists.proofs.Tabs.{tab_cong}
use Rattle.base_lists.proofs.Windows.{get_d_part, length_part}
use Rattle.pixel_place.specs.declared.Place.{Place}
use Rattle.pixel_place.specs.Blend.{place_of, moved}
use Rattle.pixel_place.proofs.Places.{run_place}
use Rattle.pixel_render.specs.declared.Section.{Section}
use Rattle.pixel_render.specs.Render.{Sectioned}

-- ---- the turns

-- the values f at each column's place, from column `left` on; vs is what f is worked out of
abbrev pub placed : (Place → ℕ → ℕ) → ℕ → ℕ → ℕ → List ℕ → ℕ → ℕ
placed f w grid left vs i = f (place_of w grid (left + i)) (get_or vs i 0)

module _ (f : Place → ℕ → ℕ) (alone : (p : Place) (j v : ℕ) → p.upper ≡ p.lower → j ≤ p.lowerweight → f (moved p j) v ≡ f p v)
    {w grid left : ℕ} (vs : List ℕ) {px : List ℕ} {i : ℕ} (e : px ≡ filled (placed f w grid left vs) vs i) {part : Section} (cut : Sectioned w grid left i (length vs) part) where
  -- the section ahead is as it was
  pub ahead_is : take (part.end - i) (drop i px) ≡ take (part.end - i) (drop i vs)
  ahead_is = ap (take (part.end - i)) (ap (drop i) e ∙ drop_filled (placed f w grid left vs) vs i)

  -- and is as long as it was cut
  pub ahead_length : length (take (part.end - i) (drop i vs)) ≡ part.end - i
  ahead_length = length_part vs (part.end - i) i (omega (arith, cut.start, cut.end))

  -- one section more, whose values were worked out of the moved weights
  pub section_next : {ys : List ℕ}
      → ys ≡ tab (length (take (part.end - i) (drop i px))) (λ j. f (moved part.column j) (get_or (take (part.end - i) (drop i px)) j 0))
      → put_mid i (part.end - i) px ys ≡ filled (placed f w grid left vs) vs part.end
  section_next q =
      filled_part (placed f w grid left vs) vs e (omega (arith, cut.start))
      (q ∙ ap (λ xs. tab (length xs) (λ j. f (moved part.column j) (get_or xs j 0))) ahead_is
      ∙ ap (λ n. tab n (λ j. f (moved part.column j) (get_or (take (part.end - i) (drop i vs)) j 0))) ahead_length
      ∙ tab_cong (part.end - i) each)
    where
      each : (j : ℕ) → j < part.end - i → f (moved part.column j) (get_or (take (part.end - i) (drop i vs)) j 0) ≡ placed f w grid left vs (i + j)
      each j l =
          let at : left + i + j ≡ left + (i + j) = omega arith in
          ap (f (moved part.column j)) (get_d_part vs (part.end - i) i l)
          ∙ run_place (λ p. f p (get_or vs (i + j) 0)) cut.run j l (λ o. alone part.column j (get_or vs (i + j) 0) o (omega (arith, cut.run.most)))
          ∙ ap (λ x. f (place_of w grid x) (get_or vs (i + j) 0)) at
