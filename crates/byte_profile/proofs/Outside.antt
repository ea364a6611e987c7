-- Order 1, "30 for a setting outside the profile, after 10": the table that the byte calls share gives the number of 1 to 9, 31 and 10 where one of them applies, and else 30.
-- Assumes nothing.
use Prim.Native.Nat.{ℕ, zero, suc}
use mathlib.Core.Bool.{Bool, true, false, ◌||◌, cond}
use mathlib.Core.List.{List, ◌++◌}
use mathlib.Core.Logic.{◌≢◌}
use mathlib.Core.Path.{◌≡◌, refl, sym, ap, ◌∙◌}
use native.Mathlib.Omega.{arith}
use lib.Dec.{eqb}
use borrow.Author.Tests.{eqb-true, eqb-false, ne_eqb}
use Rattle.base_lists.specs.Lists.{all}
use Rattle.base_rows.specs.Refuse.{Row, first}
use Rattle.base_rows.proofs.Walk.{each_first, first_front, first_behind, first_none}
use Rattle.tile_limit.specs.declared.Edition.TheVariants.{Ours}
use Rattle.film_settings.specs.declared.Settings.{Settings}
use Rattle.film_settings.specs.Settings.{setting_rows, room_rows}
use Rattle.film_settings.proofs.Ready.{setting_numbered}
use Rattle.byte_profile.specs.Profile.{profile_rows, byte_rows}
use Rattle.byte_profile.proofs.Profile.{profile_numbers, profile}

-- order 8, "The byte profile keeps the present edition only.": another edition is outside it
pub edition_outside : (s : Settings) → s.edition ≢ Ours → first (profile_rows s) ≢ 0
edition_outside s other none = other (profile s none).edition

-- a row of the profile that applies gives 30
pub profile_thirty : (s : Settings) → first (profile_rows s) ≢ 0 → first (profile_rows s) ≡ 30
unfolding all
profile_thirty s outside =
    go (eqb (first (profile_rows s)) 30) refl (each_first (λ n. eqb n 30 || eqb n 0) (profile_rows s) refl (rw (profile_numbers s) refl))
  where
    go : (b : Bool) → eqb (first (profile_rows s)) 30 ≡ b → (b || eqb (first (profile_rows s)) 0) ≡ true → first (profile_rows s) ≡ 30
    go true e h = eqb-true (first (profile_rows s)) 30 e
    go false e h = absurd (outside (eqb-true (first (profile_rows s)) 0 h))

-- so the shared table gives 30, or an earlier number
pub byte_outside : (w h size : ℕ) (s : Settings) (room : ℕ) → first (profile_rows s) ≢ 0
    → first (byte_rows w h size s room) ≡ cond (eqb (first (setting_rows w h size s)) 0) 30 (first (setting_rows w h size s))
unfolding byte_rows
byte_outside w h size s room outside = go (first (setting_rows w h size s)) refl
  where
    go : (n : ℕ) → first (setting_rows w h size s) ≡ n → first (setting_rows w h size s ++ (profile_rows s ++ room_rows s room)) ≡ cond (eqb (first (setting_rows w h size s)) 0) 30 (first (setting_rows w h size s))
    go zero z =
        first_behind (setting_rows w h size s) _ (first_none (setting_rows w h size s) (setting_numbered w h size s) z)
        ∙ first_front (profile_rows s) (room_rows s room) outside
        ∙ profile_thirty s outside
        ∙ rw z refl
    go (suc n) z =
        first_front (setting_rows w h size s) _ (λ q. omega (arith, z, q))
        ∙ rw (ne_eqb (first (setting_rows w h size s)) 0 (λ q. omega (arith, z, q))) refl

-- which is no 0, so that it is the number of any table that it stands in front of
pub outside_front : (w h size : ℕ) (s : Settings) (room : ℕ) (rest : List Row) → first (profile_rows s) ≢ 0
    → first (byte_rows w h size s room ++ rest) ≡ cond (eqb (first (setting_rows w h size s)) 0) 30 (first (setting_rows w h size s))
outside_front w h size s room rest outside =
    first_front (byte_rows w h size s room) rest (λ e. some (eqb (first (setting_rows w h size s)) 0) refl (sym (byte_outside w h size s room outside) ∙ e))
    ∙ byte_outside w h size s room outside
  where
    some : (b : Bool) → eqb (first (setting_rows w h size s)) 0 ≡ b → ◌≡◌ {A = ℕ} (cond (eqb (first (setting_rows w h size s)) 0) 30 (first (setting_rows w h size s))) 0 → ⊥
    some true z e = let y : ◌≡◌ {A = ℕ} 30 0 = sym (ap (λ b. cond b 30 (first (setting_rows w h size s))) z) ∙ e in omega arith
    some false z e = eqb-false (first (setting_rows w h size s)) 0 z (sym (ap (λ b. cond b 30 (first (setting_rows w h size s))) z) ∙ e)
