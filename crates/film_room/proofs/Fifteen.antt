-- Document 01's 15, of a set: its rows, and how they are judged.
-- Assumes nothing.
use Prim.Native.Nat.{ℕ, ◌*◌}
use mathlib.Core.Bool.{false, not}
use mathlib.Core.List.{List, [], ◌∷◌, ◌++◌}
use mathlib.Core.Path.{◌≡◌, refl, sym, ap, ap₂, ◌∙◌}
use lib.Dec.{eqb}
use borrow.Author.Tests.{eq-eqb, ne_eqb, eqb-true, not-false}
use Rattle.base_lists.specs.Lists.{all}
use Rattle.base_rows.specs.Refuse.{Row, row, first, numbers_of, Numbered}
use Rattle.base_rows.proofs.Walk.{front, behind, first_none, first_both, numbers_append}
use Rattle.film_settings.specs.declared.Settings.{Settings}
use Rattle.film_settings.specs.Settings.{bins_of, entries_of, kept_of, clip_bad_of}
use Rattle.film_record.specs.Held.{kept_rows, edition_rows}
use Rattle.film_record.proofs.Tables.{kept_numbers, edition_numbers, kept_numbered, kept_held, edition_held}
use Rattle.film_record.proofs.Laws.{own_settings, own_edition, settings_kept, edition_kept}
use Rattle.film_sets.specs.declared.Set.{Set}
use Rattle.film_sets.specs.Sets.{set_for_of}
use Rattle.film_room.specs.Room.{set_rows, SetHeld}

-- ---- what its rows tell

-- its numbers
pub set_numbers : (w h : ℕ) (s : Settings) (r : Set) → numbers_of (set_rows w h s r) ≡ 15 ∷ 15 ∷ 15 ∷ 15 ∷ 15 ∷ 15 ∷ 15 ∷ 15 ∷ 15 ∷ []
unfolding numbers_of set_rows
set_numbers w h s r =
    ap (λ ns. 15 ∷ 15 ∷ ns)
    (numbers_append (kept_rows s r.settings) (edition_rows s r.settings)
    ∙ ap₂ (λ a b. a ++ b) (kept_numbers s r.settings) (edition_numbers s r.settings))

-- all above 0
pub set_numbered : (w h : ℕ) (s : Settings) (r : Set) → Numbered (set_rows w h s r)
unfolding all
set_numbered w h s r = rw (set_numbers w h s r) refl

-- the two rows of the sizes
abbrev sizes_rows : ℕ → ℕ → Set → List Row
sizes_rows w h r = row 15 (not (eqb w r.width)) ∷ row 15 (not (eqb h r.height)) ∷ []

-- none applies: the set was made for this size and these settings
pub set_held : (w h : ℕ) (s : Settings) (r : Set) → first (set_rows w h s r) ≡ 0 → SetHeld w h s r
unfolding set_rows all numbers_of
set_held w h s r e =
    let both = first_both (sizes_rows w h r) (kept_rows s r.settings ++ edition_rows s r.settings) refl e in
    let rest = first_both (kept_rows s r.settings) (edition_rows s r.settings) (kept_numbered s r.settings) both.1 in
    let n = first_none (sizes_rows w h r) refl both.0 in
    let k = kept_held s r.settings rest.0 in
    record {
      wide = eqb-true _ _ (not-false _ n.0);
      high = eqb-true _ _ (not-false _ n.1.0);
      across = k.0;
      down = k.1;
      bins = k.2;
      least = k.3;
      most = k.4;
      clip = k.5;
      edition = edition_held s r.settings rest.1;
    }

-- so it takes as many entries
pub set_same : (w h : ℕ) (s : Settings) (r : Set) → first (set_rows w h s r) ≡ 0 → entries_of s ≡ entries_of r.settings
set_same w h s r e =
    let held : SetHeld w h s r = set_held w h s r e in
    ap (λ x. x * s.down * bins_of s) held.across ∙ ap (λ x. r.settings.across * x * bins_of s) held.down ∙ ap (λ x. r.settings.across * r.settings.down * x) held.bins

-- the film's own set: none applies
pub set_own_free : (film w h : ℕ) (s : Settings) → clip_bad_of s.clip ≡ false → first (set_rows w h s (set_for_of film w h s)) ≡ 0
unfolding set_rows first
set_own_free film w h s fair =
    rw (eq-eqb w w refl, eq-eqb h h refl)
    (sym (behind (kept_rows s (kept_of s)) (edition_rows s (kept_of s)) (kept_numbered s (kept_of s)) (sym (own_settings s fair)) refl (sym (own_edition s))))

-- ---- how it is judged

module _ (w h : ℕ) (s : Settings) (r : Set) where
  pub set_wide : (w ≡ r.width → ⊥) → 15 ≡ first (set_rows w h s r)
  unfolding set_rows first
  set_wide n = rw (ne_eqb w r.width n) refl

  module _ (e : w ≡ r.width) where
    pub set_high : (h ≡ r.height → ⊥) → 15 ≡ first (set_rows w h s r)
    unfolding set_rows first
    set_high n = rw (eq-eqb w r.width e, ne_eqb h r.height n) refl

    module _ (q : h ≡ r.height) {n : ℕ} (k : n ≡ first (kept_rows s r.settings)) where
      pub set_kept : (n ≡ 0 → ⊥) → n ≡ first (set_rows w h s r)
      unfolding set_rows first
      set_kept z = front (kept_rows s r.settings) (edition_rows s r.settings) k z ∙ rw (eq-eqb w r.width e, eq-eqb h r.height q) refl

      pub set_edition : n ≡ 0 → {x : ℕ} → x ≡ first (edition_rows s r.settings) → x ≡ first (set_rows w h s r)
      unfolding set_rows first
      set_edition z f =
          behind (kept_rows s r.settings) (edition_rows s r.settings) (kept_numbered s r.settings) k z f ∙ rw (eq-eqb w r.width e, eq-eqb h r.height q) refl

-- ---- "Bins B: 2 to 4096. 0 means 128."

-- the rows of 15 read the bins so
pub set_bins : (w h : ℕ) (s : Settings) (r : Set) → set_rows w h (kept_of s) r ≡ set_rows w h s r
unfolding set_rows
set_bins w h s r = rw (settings_kept s r.settings, edition_kept s r.settings) refl
