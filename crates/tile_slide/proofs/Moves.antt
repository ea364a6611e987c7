-- "Moving one pixel right drops one column of counts and adds another": this gives a fresh region's counts.
-- Assumes nothing.
use Prim.Native.Nat.{ℕ, zero, suc, ◌+◌, ◌-◌, ◌*◌, ◌≤◌, ◌<◌}
use mathlib.Core.List.{List, map, ◌++◌}
use mathlib.Core.Path.{◌≡◌, refl, sym, ap, ◌∙◌}
use native.Mathlib.Omega.{arith}
use lib.ListN.{get_or}
use Rattle.base_lists.specs.Lists.{tab, joined, times, filled}
use Rattle.base_lists.proofs.Tabs.{tab_cong, map_append, length_tab, get_or_tab}
use Rattle.base_lists.proofs.Maps.{onto_whole}
use Rattle.base_lists.proofs.Steps.{tab_parts}
use Rattle.base_lists.proofs.Fills.{filled_onto}
use Rattle.base_lists.proofs.Tallies.{times_append, get_or_filled, filled_cong, filled_filled}
use Rattle.tile_count.specs.declared.Rect.{Rect}
use Rattle.tile_bin.specs.Binning.{bin_of}
use Rattle.tile_count.specs.Tally.{greys_of, counts_of, added_of}
use Rattle.tile_count.proofs.Greys.{row_of, greys_rows}
use Rattle.tile_count.proofs.Counts.{counts_tab}
use Rattle.tile_slide.specs.Slide.{first_of, end_of, strip, region_rect, taken_of}

-- a rectangle's columns in two parts: each bin's count is the sum of theirs
module _ (f : ℕ → ℕ) (pic : List ℕ) (stride k : ℕ) where
  -- how many greys of a rectangle are in bin k
  abbrev tally : Rect → ℕ
  tally r = times k (map f (greys_of pic stride r))

  rows_parts : (l t a b : ℕ) (h : ℕ)
      → times k (map f (joined h (λ y. tab (a + b) (λ x. get_or pic ((t + y) * stride + (l + x)) 0))))
      ≡ times k (map f (joined h (λ y. tab a (λ x. get_or pic ((t + y) * stride + (l + x)) 0))))
      + times k (map f (joined h (λ y. tab b (λ x. get_or pic ((t + y) * stride + (l + a + x)) 0))))
  unfolding joined times
  rows_parts l t a b zero = omega arith
  rows_parts l t a b (suc h) =
      rw (
        map_append f (joined h (λ y. tab (a + b) (λ x. get_or pic ((t + y) * stride + (l + x)) 0))) (tab (a + b) (λ x. get_or pic ((t + h) * stride + (l + x)) 0)),
        times_append k (map f (joined h (λ y. tab (a + b) (λ x. get_or pic ((t + y) * stride + (l + x)) 0)))) (map f (tab (a + b) (λ x. get_or pic ((t + h) * stride + (l + x)) 0))),
        map_append f (joined h (λ y. tab a (λ x. get_or pic ((t + y) * stride + (l + x)) 0))) (tab a (λ x. get_or pic ((t + h) * stride + (l + x)) 0)),
        times_append k (map f (joined h (λ y. tab a (λ x. get_or pic ((t + y) * stride + (l + x)) 0)))) (map f (tab a (λ x. get_or pic ((t + h) * stride + (l + x)) 0))),
        map_append f (joined h (λ y. tab b (λ x. get_or pic ((t + y) * stride + (l + a + x)) 0))) (tab b (λ x. get_or pic ((t + h) * stride + (l + a + x)) 0)),
        times_append k (map f (joined h (λ y. tab b (λ x. get_or pic ((t + y) * stride + (l + a + x)) 0)))) (map f (tab b (λ x. get_or pic ((t + h) * stride + (l + a + x)) 0))),
      )
      (omega (arith, rows_parts l t a b h, row))
    where
      row : times k (map f (tab (a + b) (λ x. get_or pic ((t + h) * stride + (l + x)) 0)))
          ≡ times k (map f (tab a (λ x. get_or pic ((t + h) * stride + (l + x)) 0))) + times k (map f (tab b (λ x. get_or pic ((t + h) * stride + (l + a + x)) 0)))
      row =
          ap (λ vs. times k (map f vs)) (tab_parts a b (λ x. get_or pic ((t + h) * stride + (l + x)) 0)
          ∙ ap (λ vs. tab a (λ x. get_or pic ((t + h) * stride + (l + x)) 0) ++ vs) (tab_cong b (λ x q. ap (λ i. get_or pic ((t + h) * stride + i) 0) (omega arith))))
          ∙ ap (times k) (map_append f (tab a (λ x. get_or pic ((t + h) * stride + (l + x)) 0)) (tab b (λ x. get_or pic ((t + h) * stride + (l + a + x)) 0)))
          ∙ times_append k (map f (tab a (λ x. get_or pic ((t + h) * stride + (l + x)) 0))) (map f (tab b (λ x. get_or pic ((t + h) * stride + (l + a + x)) 0)))

  by_rows : (r : Rect) → tally r ≡ times k (map f (joined r.height (row_of pic stride r)))
  by_rows r = ap (λ vs. times k (map f vs)) (greys_rows pic stride r)

  -- the columns from a up to c, cut at b
  pub strip_parts : (h side y a b c : ℕ) → a ≤ b → b ≤ c → tally (strip h side y a c) ≡ tally (strip h side y a b) + tally (strip h side y b c)
  unfolding row_of
  strip_parts h side y a b c p q =
      let n : c - a ≡ (b - a) + (c - b) = omega arith in
      let l : a + (b - a) ≡ b = omega arith in
      rw (by_rows (strip h side y a c), by_rows (strip h side y a b), by_rows (strip h side y b c))
      (rw n (rows_parts a (first_of side y) (b - a) (c - b) (end_of side h y - first_of side y) ∙ rw l refl))

-- the counts of the region around the pixel to the right: those of the region, less the columns that it loses, and with those that it gains
pub region_moves : (lo hi b : ℕ) (pic : List ℕ) (w h side x y : ℕ) → x < w
    → added_of lo hi b (taken_of lo hi b (counts_of lo hi b (greys_of pic w (region_rect w h side x y))) (greys_of pic w (strip h side y (first_of side x) (first_of side (x + 1)))))
    (greys_of pic w (strip h side y (end_of side w x) (end_of side w (x + 1))))
    ≡ counts_of lo hi b (greys_of pic w (region_rect w h side (x + 1) y))
unfolding added_of taken_of region_rect first_of end_of
region_moves lo hi b pic w h side x y l =
    ap (λ cs. added_of lo hi b (taken_of lo hi b cs (greys_of pic w (strip h side y a a'))) (greys_of pic w (strip h side y e e'))) (counts_tab lo hi b (greys_of pic w (strip h side y a e)))
    ∙ filled_filled (λ k. get_or (tab b (λ j. tally' j (strip h side y a e))) k 0 - tally' k (strip h side y a a')) _ (tab b (λ j. tally' j (strip h side y a e))) b
    ∙ filled_cong {g = λ k. tally' k (strip h side y a' e')} (tab b (λ j. tally' j (strip h side y a e))) b each
    ∙ filled_onto (λ k. tally' k (strip h side y a' e')) (tab b (λ j. tally' j (strip h side y a e))) b
    ∙ onto_whole (tab b (λ j. tally' j (strip h side y a e))) (tab b (λ k. tally' k (strip h side y a' e'))) (omega (arith, length_tab b (λ j. tally' j (strip h side y a e)), length_tab b (λ k. tally' k (strip h side y a' e'))))
    ∙ sym (counts_tab lo hi b (greys_of pic w (strip h side y a' e')))
  where
    a : ℕ
    a = first_of side x

    a' : ℕ
    a' = first_of side (x + 1)

    e : ℕ
    e = end_of side w x

    e' : ℕ
    e' = end_of side w (x + 1)

    tally' : ℕ → Rect → ℕ
    tally' k r = times k (map (bin_of lo hi b) (greys_of pic w r))

    each : (k : ℕ) → k < b
        → get_or (filled (λ k. get_or (tab b (λ j. tally' j (strip h side y a e))) k 0 - tally' k (strip h side y a a')) (tab b (λ j. tally' j (strip h side y a e))) b) k 0 + tally' k (strip h side y e e')
        ≡ tally' k (strip h side y a' e')
    each k q =
        let n = get_or_filled (λ k. get_or (tab b (λ j. tally' j (strip h side y a e))) k 0 - tally' k (strip h side y a a')) (tab b (λ j. tally' j (strip h side y a e))) b k q in
        let m = get_or_tab b (λ j. tally' j (strip h side y a e)) k 0 q in
        let p = strip_parts (bin_of lo hi b) pic w k h side y a a' e (omega arith) (omega arith) in
        let r = strip_parts (bin_of lo hi b) pic w k h side y a' e e' (omega arith) (omega arith) in
        omega (arith, n, m, p, r)
