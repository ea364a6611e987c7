-- The refusals of turning a raster into greys: their parts one behind the other, and what they tell where no row applies.
-- Assumes nothing.
use Prim.Native.Nat.{ℕ, ◌-◌, ◌*◌, ◌≤◌, ◌<◌}
use mathlib.Core.Bool.{Bool, true, false, not, cond}
use mathlib.Core.List.{List}
use mathlib.Core.Path.{◌≡◌, refl, sym, ap, ◌∙◌}
use native.Mathlib.Omega.{arith}
use lib.Dec.{ltb}
use lib.ListN.{length, drop}
use borrow.Author.Tests.{ltb-false, not-false, le-ltb, lt-ltb}
use Rattle.base_lists.specs.Lists.{all}
use Rattle.base_rows.specs.Refuse.{first, numbers_of, Numbered}
use Rattle.base_rows.proofs.Walk.{each_append, first_none, first_hit, none_first, none_append, none_front, none_behind, front, behind}
use Rattle.pgm_samples.specs.Samples.{is_wide, unpacked, none_above_of}
use Rattle.pgm_raster.specs.Raster.{head_rows, raster_rows}
use Rattle.pgm_raster.proofs.Tables.{limit_numbered, raster_numbered, within_none, exact_none, raster_asks}
use Rattle.pgm_greys.specs.Greys.{target_rows, turn_rows, GreyAsks}

module _ (bytes : List ℕ) (start w h m room : ℕ) where
  -- 27 applies
  pub target_short : room < w * h → 27 ≡ first (target_rows bytes start w h m room)
  unfolding target_rows
  target_short l = sym (first_hit _ (lt-ltb room (w * h) l))

  -- 26 does not apply
  pub target_fits : {t : Bool} → w * h ≤ room → t ≡ none_above_of m (unpacked (is_wide m) (drop start bytes) (w * h)) → t ≡ true
      → 0 ≡ first (target_rows bytes start w h m room)
  unfolding first target_rows
  target_fits l e q = rw (le-ltb room (w * h) l, ← e, q) refl

  -- 26 applies
  pub target_above : {t : Bool} → w * h ≤ room → t ≡ none_above_of m (unpacked (is_wide m) (drop start bytes) (w * h)) → t ≡ false
      → 26 ≡ first (target_rows bytes start w h m room)
  unfolding first target_rows
  target_above l e q = rw (le-ltb room (w * h) l, ← e, q) refl

  -- 22 or 23 applies
  pub grey_limit : {r : ℕ} → r ≡ first (head_rows w h m) → (r ≡ 0 → ⊥) → r ≡ first (turn_rows bytes start w h m room)
  unfolding turn_rows
  grey_limit e z = front (head_rows w h m) _ e z

  -- 24 or 25 applies
  pub grey_raster : {size a r : ℕ} → a ≡ first (head_rows w h m) → a ≡ 0 → size ≡ length bytes - start → r ≡ first (raster_rows w h m size) → (r ≡ 0 → ⊥)
      → r ≡ first (turn_rows bytes start w h m room)
  unfolding turn_rows
  grey_raster {size} {a} {r} e z q f y =
      behind (head_rows w h m) _ (limit_numbered w h m) e z (front (raster_rows w h m (length bytes - start)) _ (f ∙ ap (λ k. first (raster_rows w h m k)) q) y)

  -- none of them applies
  pub grey_target : {size a b r : ℕ} → a ≡ first (head_rows w h m) → a ≡ 0 → size ≡ length bytes - start → b ≡ first (raster_rows w h m size) → b ≡ 0
      → r ≡ first (target_rows bytes start w h m room) → r ≡ first (turn_rows bytes start w h m room)
  unfolding turn_rows
  grey_target {size} {a} {b} {r} e z q f y g =
      behind (head_rows w h m) _ (limit_numbered w h m) e z
      (behind (raster_rows w h m (length bytes - start)) _ (raster_numbered w h m (length bytes - start)) (f ∙ ap (λ k. first (raster_rows w h m k)) q) y g)

  -- where the target has room, 26 decides of the last two
  pub target_roomy : w * h ≤ room → first (target_rows bytes start w h m room) ≡ cond (none_above_of m (unpacked (is_wide m) (drop start bytes) (w * h))) 0 26
  unfolding first target_rows
  target_roomy l = rw (le-ltb room (w * h) l) (go (none_above_of m (unpacked (is_wide m) (drop start bytes) (w * h))))
    where
      go : (b : Bool) → ◌≡◌ {A = ℕ} (cond (not b) 26 0) (cond b 0 26)
      go true = refl
      go false = refl

  -- the numbers are above 0
  pub grey_numbered : Numbered (turn_rows bytes start w h m room)
  unfolding all numbers_of turn_rows target_rows
  grey_numbered =
      each_append (ltb 0) (head_rows w h m) _ (limit_numbered w h m)
      (each_append (ltb 0) (raster_rows w h m (length bytes - start)) _ (raster_numbered w h m (length bytes - start)) refl)

  -- no row applies: what the work below relies on
  pub grey_asks : first (turn_rows bytes start w h m room) ≡ 0 → GreyAsks bytes start w h m room
  unfolding turn_rows target_rows
  grey_asks e =
      let n = first_none (turn_rows bytes start w h m room) grey_numbered e in
      let a = none_front (head_rows w h m) _ n in
      let b = none_behind (head_rows w h m) _ n in
      let x = none_front (raster_rows w h m (length bytes - start)) _ b in
      let y = none_behind (raster_rows w h m (length bytes - start)) _ b in
      record {
        raster = raster_asks bytes start w h m (sym (none_first (head_rows w h m) a)) refl refl (sym (none_first (raster_rows w h m (length bytes - start)) x)) refl;
        fitting = ltb-false _ _ y.0;
        bounded = not-false _ y.1.0;
      }

  -- and the other way
  pub grey_none : GreyAsks bytes start w h m room → first (turn_rows bytes start w h m room) ≡ 0
  unfolding turn_rows target_rows
  grey_none t =
      none_first (turn_rows bytes start w h m room)
      (none_append (head_rows w h m) _ (within_none w h m t.raster.within)
      (none_append (raster_rows w h m (length bytes - start)) _ (exact_none w h m (length bytes - start) (omega (arith, t.raster.exact)))
      (le-ltb room (w * h) t.fitting, (rw t.bounded refl, tt))))
