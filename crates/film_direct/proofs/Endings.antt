-- How direct ends: refused, with the film copied at the factor 1.0, or with the film painted.
-- Assumes nothing.
use Prim.Native.Nat.{ℕ, zero, suc, ◌+◌, ◌*◌, ◌≤◌}
use mathlib.Core.Bool.{Bool, true, false}
use mathlib.Core.List.{List, ◌++◌}
use mathlib.Core.Path.{◌≡◌, refl, sym, ap, ap₂, ◌∙◌}
use native.Mathlib.Nat.{mul_comm, zero-mul}
use native.Mathlib.Omega.{arith}
use lib.ListN.{length, get_or, take}
use lib.Seq.{take_all, take-add}
use Rattle.base_lists.specs.Lists.{tab, joined, onto, filled}
use Rattle.base_lists.proofs.Tabs.{length_tab, tab_cong}
use Rattle.base_lists.proofs.Tallies.{part_tab}
use Rattle.base_lists.proofs.Fills.{length_joined, joined_cong}
use Rattle.base_lists.proofs.Maps.{onto_whole}
use Rattle.base_rows.specs.Refuse.{first, unless, accepted, refused}
use Rattle.base_rows.proofs.Walk.{unless_refused}
use Rattle.film_settings.specs.declared.Settings.{Settings}
use Rattle.film_settings.specs.declared.Footer.{Footer}
use Rattle.film_settings.specs.Settings.{bins_of, entries_of, clip_one_of}
use Rattle.film_tiles.specs.Tiles.{foot_of, Work, FilmFooterAsks}
use Rattle.film_tiles.proofs.Footers.{film_asks}
use Rattle.pixel_rule.proofs.Rule.{shown_one, shown_rule}
use Rattle.film_prepare.specs.Prepare.{paint_leaves}
use Rattle.film_direct.specs.Direct.{direct_rows, shown_film, rule_row, directed_of, direct_of, DirectPaintAsks}
use Rattle.film_direct.proofs.Table.{known}

-- ---- the film, row by row

-- its first n rows
rows_front : (w : ℕ) (pic : List ℕ) (n : ℕ) → n * w ≤ length pic → joined n (λ y. tab w (λ x. get_or pic (y * w + x) 0)) ≡ take (n * w) pic
unfolding joined
rows_front w pic zero l = ap (λ k. take k pic) (sym (zero-mul w))
rows_front w pic (suc n) l =
    let more : suc n * w ≡ n * w + w = omega arith in
    ap₂ (λ a b. a ++ b) (rows_front w pic n (omega arith)) (sym (part_tab pic (n * w) w (omega arith)))
    ∙ sym (take-add (n * w) w pic)
    ∙ ap (λ k. take k pic) (sym more)

-- all of them
pub rows_whole : (w h : ℕ) (pic : List ℕ) → length pic ≡ w * h → joined h (λ y. tab w (λ x. get_or pic (y * w + x) 0)) ≡ pic
rows_whole w h pic e = rows_front w pic h (omega (arith, mul_comm w h)) ∙ take_all (h * w) pic (omega (arith, mul_comm w h))

module _ (w h : ℕ) (pic : List ℕ) (s : Settings) where
  -- as many as the film's pixels
  pub length_shown : length (shown_film w h pic s) ≡ w * h
  unfolding shown_film
  length_shown = length_joined w h _ (λ y l. length_tab w _) ∙ mul_comm h w

  -- "exactly 1.0 returns the film unchanged"
  pub shown_film_one : clip_one_of s.clip ≡ true → length pic ≡ w * h → shown_film w h pic s ≡ pic
  unfolding shown_film
  shown_film_one one e = joined_cong h (λ y l. tab_cong w (λ x k. shown_one w h pic s x y one)) ∙ rows_whole w h pic e

  -- else it is the one by the rule
  pub shown_film_rule : clip_one_of s.clip ≡ false → shown_film w h pic s ≡ joined h (rule_row w h pic s)
  unfolding shown_film rule_row
  shown_film_rule one = joined_cong h (λ y l. tab_cong w (λ x k. shown_rule w h pic s x y one))

-- ---- what the work asks, once none of the rows applies

module _ (w h : ℕ) (pic : List ℕ) (s : Settings) (scratch target : ℕ) {r : ℕ} (e : r ≡ first (direct_rows w h pic s scratch target)) (z : r ≡ 0) where
  asks_work : Work w h pic s (entries_of s) scratch × (target ≡ w * h)
  asks_work = known w h pic s scratch target (sym e ∙ z)

  -- the footer
  pub asks_foot : FilmFooterAsks w h s
  asks_foot = film_asks asks_work.0.ready

  -- the copy
  pub asks_copy : length pic ≤ target
  asks_copy = omega (arith, asks_work.0.ready.whole, asks_work.1)

  -- the painting
  pub asks_paint : {c : Bool} → c ≡ clip_one_of s.clip → c ≡ false → DirectPaintAsks w h pic s target scratch
  asks_paint q f = record { film = record { work = asks_work.0; changes = sym q ∙ f }; room = asks_work.1 }

-- ---- the endings

module _ (w h : ℕ) (pic : List ℕ) (s : Settings) (o t : List ℕ) where
  -- a refusal, as it was worked out
  pub direct_refused : {r : ℕ} → r ≡ first (direct_rows w h pic s (length t) (length o)) → (r ≡ 0 → ⊥) → paint_leaves (refused r) o t ≡ direct_of w h pic s o t
  unfolding direct_of
  direct_refused {r} e z =
      unless_refused r (λ n. paint_leaves (refused n) o t) (directed_of w h pic s t) z
      ∙ ap (λ k. unless k (λ n. paint_leaves (refused n) o t) (directed_of w h pic s t)) e

  -- no refusal
  pub direct_done : {r : ℕ} → r ≡ first (direct_rows w h pic s (length t) (length o)) → r ≡ 0 → directed_of w h pic s t ≡ direct_of w h pic s o t
  unfolding direct_of
  direct_done {r} e z = ap (λ k. unless k (λ n. paint_leaves (refused n) o t) (directed_of w h pic s t)) (sym z ∙ e)

  -- at the factor 1.0 the film is copied, and the scratch stays
  pub direct_one : {r : ℕ} {foot : Footer} {c : Bool} {o' : List ℕ} → r ≡ first (direct_rows w h pic s (length t) (length o)) → r ≡ 0
      → foot ≡ foot_of w h s → c ≡ clip_one_of s.clip → c ≡ true → o' ≡ onto o pic
      → paint_leaves (accepted foot) o' t ≡ direct_of w h pic s o t
  unfolding directed_of
  direct_one {r} {foot} {c} {o'} e z f q y g =
      let one : clip_one_of s.clip ≡ true = sym q ∙ y in
      let work = asks_work w h pic s (length t) (length o) e z in
      let copied : o' ≡ shown_film w h pic s = g ∙ onto_whole o pic (omega (arith, work.0.ready.whole, work.1)) ∙ sym (shown_film_one w h pic s one work.0.ready.whole) in
      rw (f, copied, one) refl ∙ direct_done e z

  -- else it is painted
  pub direct_well : {r : ℕ} {foot : Footer} {c : Bool} {o' t' : List ℕ} → r ≡ first (direct_rows w h pic s (length t) (length o)) → r ≡ 0
      → foot ≡ foot_of w h s → c ≡ clip_one_of s.clip → c ≡ false → o' ≡ joined h (rule_row w h pic s) → t' ≡ filled (λ k. 0) t (bins_of s)
      → paint_leaves (accepted foot) o' t' ≡ direct_of w h pic s o t
  unfolding directed_of
  direct_well {r} {foot} {c} {o'} {t'} e z f q y g u =
      let one : clip_one_of s.clip ≡ false = sym q ∙ y in
      let shown : o' ≡ shown_film w h pic s = g ∙ sym (shown_film_rule w h pic s one) in
      rw (f, shown, u, one) refl ∙ direct_done e z
