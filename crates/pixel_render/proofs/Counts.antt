-- How many sums move: in a row section by section, and in a window row by row.
-- Assumes nothing.
use Prim.Native.Nat.{ℕ, zero, suc, ◌+◌, ◌-◌, ◌*◌, ◌≤◌}
use mathlib.Core.List.{List}
use mathlib.Core.Path.{◌≡◌, refl, ap, ap₂, ◌∙◌}
use lib.ListN.{length, take, drop, length-drop}
use lib.Seq.{length-take-le, drop-drop}
use native.Mathlib.Nat.{zero-add}
use native.Mathlib.Numerals.{add-one}
use native.Mathlib.Omega.{arith}
use Rattle.base_lists.specs.Lists.{sum}
use Rattle.pixel_sums.specs.Sums.{sums_moved}
use Rattle.pixel_sums.proofs.Choice.{sums_few}
use Rattle.film_settings.specs.declared.Settings.{Settings}
use Rattle.pixel_render.specs.declared.Section.{Section}
use Rattle.pixel_render.specs.Render.{section_of, moved_parts, moved_row, Sectioned}

-- ---- sections

module _ (w : ℕ) (s : Settings) (room : ℕ) where
  -- one section more
  parts_suc : (n x : ℕ) (ks : List ℕ) (k : ℕ) → k ≡ section_of w s.across x (length ks)
      → moved_parts w s room (suc n) x ks ≡ sums_moved room (take k ks) + moved_parts w s room n (x + k) (drop k ks)
  unfolding moved_parts
  parts_suc n x ks k e = rw e refl

  -- no more sums move than there are pixels
  parts_few : (n x : ℕ) (ks : List ℕ) → moved_parts w s room n x ks ≤ length ks
  unfolding moved_parts
  parts_few zero x ks = omega arith
  parts_few (suc n) x ks =
      let k : ℕ = section_of w s.across x (length ks) in
      let in-it : k ≤ length ks = omega arith in
      omega (arith, parts_suc n x ks k refl, sums_few room (take k ks), length-take-le k ks in-it, parts_few n (x + k) (drop k ks), length-drop k ks)

  pub row_few : (left : ℕ) (ks : List ℕ) → moved_row w s left room ks ≤ length ks
  unfolding moved_row
  row_few left ks = parts_few (length ks) left ks

-- what has moved in the pixels passed, and what moves in those ahead
pub record Moving (w : ℕ) (s : Settings) (left room : ℕ) (ks : List ℕ) (at moved : ℕ) : Type 0 where
  pub parts : ℕ
  pub enough : length ks ≤ at + parts
  pub few : moved ≤ at
  pub told : moved + moved_parts w s room parts (left + at) (drop at ks) ≡ moved_row w s left room ks

module _ (w : ℕ) (s : Settings) (left room : ℕ) (ks : List ℕ) where
  -- nothing has moved yet
  pub moving_first : Moving w s left room ks 0 0
  unfolding moved_row
  moving_first =
      let here : left + 0 ≡ left = omega arith in
      record { parts = length ks; enough = omega arith; few = omega arith; told = zero-add _ ∙ ap (λ x. moved_parts w s room (length ks) x ks) here }

  module _ {at moved : ℕ} (m : Moving w s left room ks at moved) where
    -- one section more
    pub moving_next : {part : Section} → Sectioned w s.across left at (length ks) part → {r : ℕ} → r ≡ sums_moved room (take (part.end - at) (drop at ks))
        → Moving w s left room ks part.end (moved + r)
    moving_next {part} cut {r} e = go m.parts refl
      where
        n : ℕ
        n = part.end - at

        size : n ≡ section_of w s.across (left + at) (length (drop at ks))
        size = omega (arith, cut.size, length-drop at ks)

        rest : ℕ → ℕ
        rest parts = moved_parts w s room parts (left + part.end) (drop part.end ks)

        ahead : (parts : ℕ) → moved_parts w s room parts (left + at + n) (drop n (drop at ks)) ≡ rest parts
        ahead parts =
            let here : left + at + n ≡ left + part.end = omega (arith, cut.start) in
            let behind : at + n ≡ part.end = omega (arith, cut.start) in
            ap₂ (moved_parts w s room parts) here (drop-drop n at ks ∙ ap (λ t. drop t ks) behind)

        room_for : n ≤ length (drop at ks)
        room_for = omega (arith, size)

        go : (parts : ℕ) → m.parts ≡ parts → Moving w s left room ks part.end (moved + r)
        go zero z = absurd (omega (arith, m.enough, cut.start, cut.end))
        go (suc parts) z =
            record {
              parts = parts;
              enough = omega (arith, m.enough, cut.start);
              few = omega (arith, e, m.few, sums_few room (take n (drop at ks)), length-take-le n (drop at ks) room_for, cut.start);
              told =
                  omega (
                    arith,
                    e,
                    parts_suc w s room parts (left + at) (drop at ks) n size,
                    ahead parts,
                    ap (λ t. moved_parts w s room t (left + at) (drop at ks)) z,
                    m.told,
                  );
            }

    -- the whole row
    pub moving_end : length ks ≤ at → moved ≡ moved_row w s left room ks
    moving_end l =
        let none : length (drop at ks) ≡ 0 = omega (arith, length-drop at ks) in
        omega (arith, m.told, parts_few w s room m.parts (left + at) (drop at ks))

-- ---- rows

-- nothing moves in no row
pub sum_none : (f : ℕ → ℕ) → 0 ≡ sum 0 f
unfolding sum
sum_none f = refl

-- one row more, of at most k pixels
pub sum_next : (k : ℕ) (f : ℕ → ℕ) {j m r : ℕ} → (m ≡ sum j f) × (m ≤ j * k) → r ≡ f j → r ≤ k → (m + r ≡ sum (j + 1) f) × (m + r ≤ (j + 1) * k)
unfolding sum
sum_next k f {j} {m} {r} h e l = (rw add-one (ap₂ (λ x y. x + y) h.0 e), rw add-one (omega (arith, h.1)))
