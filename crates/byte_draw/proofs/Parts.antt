-- The table of draw on bytes: 13 and 18 are never given, and outside the profile it gives 30 or an earlier number.
-- Assumes nothing.
use Prim.Native.Nat.{ℕ, zero, suc, ◌<◌}
use mathlib.Core.Bool.{Bool, true, not, ◌&&◌, cond}
use mathlib.Core.List.{List}
use mathlib.Core.Logic.{◌≢◌}
use mathlib.Core.Path.{◌≡◌, refl, sym, ap, ◌∙◌}
use native.Mathlib.Omega.{arith}
use lib.Dec.{eqb}
use lib.ListN.{length, get_or}
use Rattle.base_lists.specs.Lists.{all}
use Rattle.base_rows.specs.Refuse.{first}
use Rattle.base_rows.proofs.Walk.{each_first}
use Rattle.film_settings.specs.declared.Settings.{Settings}
use Rattle.film_settings.specs.declared.MapRecord.{MapRecord}
use Rattle.film_settings.specs.declared.Window.{Window}
use Rattle.film_settings.specs.Settings.{setting_rows}
use Rattle.film_record.specs.Held.{record_rows, window_rows}
use Rattle.film_record.proofs.Tables.{record_numbers_lem, window_numbers}
use Rattle.byte_profile.specs.Profile.{profile_rows, byte_rows}
use Rattle.byte_profile.proofs.Profile.{byte_numbers}
use Rattle.byte_profile.proofs.Outside.{outside_front}
use Rattle.byte_draw.specs.Bytes.{byte_draw_rows}
use Rattle.byte_draw.proofs.Tables.{rows_shared, rows_record, rows_window}

-- neither 13 nor 18
abbrev neither : ℕ → Bool
neither n = not (eqb n 13) && not (eqb n 18)

module _ (film w h : ℕ) (pic : List ℕ) (s : Settings) (r : MapRecord) (win : Window) (m : List ℕ) (room : ℕ) where
  -- the number that the table gives
  given : ((i : ℕ) → get_or pic i 0 < 256) → ((i : ℕ) → get_or m i 0 < 256) → neither (first (byte_draw_rows film w h pic s r win m room)) ≡ true
  unfolding all
  given small smalls = go (first (byte_rows w h (length pic) s (length m))) refl
    where
      kept : neither (first (record_rows film w h s r)) ≡ true
      kept = each_first neither (record_rows film w h s r) refl (rw (record_numbers_lem film w h s r) refl)

      window : neither (first (window_rows w h win room)) ≡ true
      window = each_first neither (window_rows w h win room) refl (rw (window_numbers w h win room) refl)

      inner : (n : ℕ) → first (record_rows film w h s r) ≡ n → first (byte_rows w h (length pic) s (length m)) ≡ 0 → neither (first (byte_draw_rows film w h pic s r win m room)) ≡ true
      inner zero e z = rw (sym (rows_window film w h pic s r win m room refl z refl e refl small smalls)) window
      inner (suc n) e z = rw (sym (rows_record film w h pic s r win m room refl z refl (λ q. omega (arith, e, q)))) kept

      go : (n : ℕ) → first (byte_rows w h (length pic) s (length m)) ≡ n → neither (first (byte_draw_rows film w h pic s r win m room)) ≡ true
      go zero z = inner (first (record_rows film w h s r)) refl z
      go (suc n) z =
          rw (sym (rows_shared film w h pic s r win m room refl (λ q. omega (arith, z, q))))
          (each_first neither (byte_rows w h (length pic) s (length m)) refl (rw (byte_numbers w h (length pic) s (length m)) refl))

  -- is neither of them
  pub draw_never_13_18 : ((i : ℕ) → get_or pic i 0 < 256) → ((i : ℕ) → get_or m i 0 < 256)
      → (first (byte_draw_rows film w h pic s r win m room) ≢ 13) × (first (byte_draw_rows film w h pic s r win m room) ≢ 18)
  draw_never_13_18 small smalls = ((λ q. no13 (ap neither (sym q) ∙ given small smalls)), (λ q. no18 (ap neither (sym q) ∙ given small smalls)))
    where
      no13 : neither 13 ≡ true → ⊥
      no13 e = let z : ◌≡◌ {A = ℕ} 0 1 = cc in omega arith

      no18 : neither 18 ≡ true → ⊥
      no18 e = let z : ◌≡◌ {A = ℕ} 0 1 = cc in omega arith

  -- outside the profile: 30, or an earlier number
  pub draw_outside : first (profile_rows s) ≢ 0 → first (byte_draw_rows film w h pic s r win m room) ≡ cond (eqb (first (setting_rows w h (length pic) s)) 0) 30 (first (setting_rows w h (length pic) s))
  unfolding byte_draw_rows
  draw_outside outside = outside_front w h (length pic) s (length m) _ outside
