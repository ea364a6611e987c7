-- How around ends: refused, with the film copied at the factor 1.0, or with the film painted.
-- Assumes nothing.
use Prim.Native.Nat.{ℕ, ◌*◌, ◌≤◌}
use mathlib.Core.Bool.{Bool, true, false}
use mathlib.Core.List.{List}
use mathlib.Core.Path.{◌≡◌, refl, sym, ap, ap₂, ◌∙◌}
use native.Mathlib.Omega.{arith}
use lib.ListN.{length}
use Rattle.base_lists.specs.Lists.{joined, onto, filled}
use Rattle.base_lists.proofs.Maps.{onto_whole}
use Rattle.base_rows.specs.Refuse.{first, unless, accepted, refused}
use Rattle.base_rows.proofs.Walk.{unless_refused}
use Rattle.film_settings.specs.declared.Settings.{Settings}
use Rattle.film_settings.specs.declared.Footer.{Footer}
use Rattle.film_settings.specs.Settings.{bins_of, clip_one_of}
use Rattle.film_tiles.specs.Tiles.{footer_of, FooterAsks}
use Rattle.tile_slide.specs.Slide.{RegionAsks}
use Rattle.film_prepare.specs.Prepare.{paint_leaves}
use Rattle.film_around.specs.Around.{around_rows, region_pixels, around_row, around_film, around_foot, arounded_of, around_of, AroundPaintAsks}
use Rattle.film_around.proofs.Table.{Known, known}
use Rattle.film_around.proofs.Pixels.{film_region, pixels_few}

-- ---- what the work asks, once none of the rows applies

module _ (w h : ℕ) (pic : List ℕ) (side : ℕ) (s : Settings) (scratch target : ℕ) {r : ℕ} (e : r ≡ first (around_rows w h pic side s scratch target)) (z : r ≡ 0) where
  told : Known w h pic side s scratch target
  told = known w h pic side s scratch target (sym e ∙ z)

  -- the first pixel's region
  pub asks_area : RegionAsks w h side 0 0
  asks_area = film_region told.film told.film.wide told.film.high

  -- the footer
  pub asks_footer : {n b : ℕ} → n ≡ region_pixels w h side 0 0 → b ≡ bins_of s → FooterAsks s.clip n b
  asks_footer p q =
      record {
        good = told.film.fair;
        pixels = (pixels_few asks_area p).1;
        least = omega (arith, q, told.film.scale.some);
        most = omega (arith, q, told.film.scale.few);
      }

  -- the copy
  pub asks_copy : length pic ≤ target
  asks_copy = omega (arith, told.film.whole, told.room)

  -- the painting
  pub asks_paint : AroundPaintAsks w h pic side s target scratch
  asks_paint = record { film = told.film; room = told.room; enough = omega (arith, told.enough) }

-- ---- the endings

module _ (w h : ℕ) (pic : List ℕ) (side : ℕ) (s : Settings) (o t : List ℕ) where
  -- a refusal, as it was worked out
  pub around_refused : {r : ℕ} → r ≡ first (around_rows w h pic side s (length t) (length o)) → (r ≡ 0 → ⊥) → paint_leaves (refused r) o t ≡ around_of w h pic side s o t
  unfolding around_of
  around_refused {r} e z =
      unless_refused r (λ n. paint_leaves (refused n) o t) (arounded_of w h pic side s t) z
      ∙ ap (λ k. unless k (λ n. paint_leaves (refused n) o t) (arounded_of w h pic side s t)) e

  -- no refusal
  pub around_done : {r : ℕ} → r ≡ first (around_rows w h pic side s (length t) (length o)) → r ≡ 0 → arounded_of w h pic side s t ≡ around_of w h pic side s o t
  unfolding around_of
  around_done {r} e z = ap (λ k. unless k (λ n. paint_leaves (refused n) o t) (arounded_of w h pic side s t)) (sym z ∙ e)

  module _ {r n b : ℕ} {foot : Footer} {c : Bool} (e : r ≡ first (around_rows w h pic side s (length t) (length o))) (z : r ≡ 0)
      (p : n ≡ region_pixels w h side 0 0) (q : b ≡ bins_of s) (f : foot ≡ footer_of s.clip n b) (u : c ≡ clip_one_of s.clip) where
    footed : foot ≡ around_foot w h side s
    unfolding around_foot
    footed = f ∙ ap₂ (footer_of s.clip) p q

    -- at the factor 1.0 the film is copied, and the scratch stays
    pub around_one : {o' : List ℕ} → c ≡ true → o' ≡ onto o pic → paint_leaves (accepted foot) o' t ≡ around_of w h pic side s o t
    unfolding arounded_of
    around_one {o'} y g =
        let one : clip_one_of s.clip ≡ true = sym u ∙ y in
        let film = told w h pic side s (length t) (length o) e z in
        let copied : o' ≡ pic = g ∙ onto_whole o pic (omega (arith, film.film.whole, film.room)) in
        rw (footed, copied, one) refl ∙ around_done e z

    -- else it is painted
    pub around_well : {o' t' : List ℕ} → c ≡ false → o' ≡ joined h (around_row w h pic side s) → t' ≡ filled (λ k. 0) t (2 * bins_of s)
        → paint_leaves (accepted foot) o' t' ≡ around_of w h pic side s o t
    unfolding arounded_of around_film
    around_well {o'} {t'} y g v =
        let one : clip_one_of s.clip ≡ false = sym u ∙ y in
        rw (footed, g, v, one) refl ∙ around_done e z
