-- The byte calls' outcomes are the same for bins 0 as for 128, on both sides of draw's record, and draw on bytes reads of the map buffer the mappings' entries alone.
-- Assumes nothing.
use Prim.Native.Nat.{ℕ, zero, suc}
use mathlib.Core.Bool.{Bool, true, false, cond}
use mathlib.Core.List.{List}
use mathlib.Core.Path.{◌≡◌, refl, sym, ap, ◌∙◌}
use native.Mathlib.Omega.{arith}
use lib.Dec.{eqb}
use lib.ListN.{length, take}
use borrow.Author.Tests.{eqb-false}
use Rattle.base_rows.specs.Refuse.{first, refused}
use Rattle.film_settings.specs.declared.Settings.{Settings}
use Rattle.film_settings.specs.declared.MapRecord.{MapRecord}
use Rattle.film_settings.specs.declared.Window.{Window}
use Rattle.film_settings.specs.Settings.{entries_of, kept_of, kept_record, setting_rows}
use Rattle.film_settings.proofs.Like.{setting_kept}
use Rattle.film_prepare.specs.Prepare.{prepare_leaves, enhance_leaves}
use Rattle.film_prepare.proofs.Like.{prepare_kept, enhance_kept}
use Rattle.film_draw.specs.Draw.{draw_leaves}
use Rattle.film_draw.proofs.Like.{draw_kept, draw_kept_record, draw_front}
use Rattle.byte_profile.specs.Profile.{profile_rows}
use Rattle.byte_profile.proofs.Profile.{profile_kept}
use Rattle.byte_prepare.specs.Bytes.{byte_prepare_of, byte_enhance_of}
use Rattle.byte_prepare.proofs.Tables.{rows_enough}
use Rattle.byte_prepare.proofs.Parts.{bytes_outside}
use Rattle.byte_prepare.proofs.Endings.{prepare_inside, enhance_inside}
use Rattle.byte_draw.specs.Bytes.{byte_draw_of}
use Rattle.byte_draw.proofs.Parts.{draw_outside}
use Rattle.promise_bytes.proofs.Inside.{prepare_bytes_table, enhance_bytes_table, draw_bytes_table, draw_inside}

-- ---- outside the profile

-- the number that the calls give there: 30, or an earlier one
abbrev outside_number : ℕ → ℕ → ℕ → Settings → ℕ
outside_number w h size s = cond (eqb (first (setting_rows w h size s)) 0) 30 (first (setting_rows w h size s))

-- it is one
outside_some : (w h size : ℕ) (s : Settings) → ◌≡◌ {A = ℕ} (outside_number w h size s) 0 → ⊥
outside_some w h size s q = go (eqb (first (setting_rows w h size s)) 0) refl q
  where
    go : (b : Bool) → eqb (first (setting_rows w h size s)) 0 ≡ b → ◌≡◌ {A = ℕ} (cond b 30 (first (setting_rows w h size s))) 0 → ⊥
    go true e z = let y : ◌≡◌ {A = ℕ} 30 0 = z in omega arith
    go false e z = eqb-false (first (setting_rows w h size s)) 0 e z

-- and the same for 0 as for 128
outside_kept : (w h size : ℕ) (s : Settings) → outside_number w h size (kept_of s) ≡ outside_number w h size s
outside_kept w h size s = ap (λ rows. cond (eqb (first rows) 0) 30 (first rows)) (setting_kept w h size s)

-- ---- the outcomes, by whether the settings are inside the profile

module _ (w h : ℕ) (pic : List ℕ) (s : Settings) where
  pub prepare_bytes_kept : (film : ℕ) (m t n : List ℕ) → byte_prepare_of film w h pic (kept_of s) m t n ≡ byte_prepare_of film w h pic s m t n
  prepare_bytes_kept film m t n = go (first (profile_rows s)) refl
    where
      out : (x : Settings) → (first (profile_rows x) ≡ 0 → ⊥) → byte_prepare_of film w h pic x m t n ≡ prepare_leaves (refused (outside_number w h (length pic) x)) m t n
      out x outside =
          let number = bytes_outside w h pic x (length m) (length t) (length n) outside in
          (prepare_bytes_table film w h pic x m t n).when_some (λ z. outside_some w h (length pic) x (sym number ∙ z)) ∙ ap (λ k. prepare_leaves (refused k) m t n) number

      go : (k : ℕ) → first (profile_rows s) ≡ k → byte_prepare_of film w h pic (kept_of s) m t n ≡ byte_prepare_of film w h pic s m t n
      go zero e = prepare_inside film w h pic (kept_of s) m t n (ap first (profile_kept s) ∙ e) ∙ prepare_kept film w h pic s m t n ∙ sym (prepare_inside film w h pic s m t n e)
      go (suc k) e =
          out (kept_of s) (λ z. omega (arith, sym (ap first (profile_kept s)) ∙ z, e))
          ∙ ap (λ x. prepare_leaves (refused x) m t n) (outside_kept w h (length pic) s)
          ∙ sym (out s (λ z. omega (arith, z, e)))

  pub enhance_bytes_kept : (m t : List ℕ) → byte_enhance_of w h pic (kept_of s) m t ≡ byte_enhance_of w h pic s m t
  enhance_bytes_kept m t = go (first (profile_rows s)) refl
    where
      out : (x : Settings) → (first (profile_rows x) ≡ 0 → ⊥) → byte_enhance_of w h pic x m t ≡ enhance_leaves (refused (outside_number w h (length pic) x)) pic m t
      out x outside =
          let number = sym (rows_enough w h pic x (length m) (length t)) ∙ bytes_outside w h pic x (length m) (length t) 128 outside in
          (enhance_bytes_table w h pic x m t).when_some (λ z. outside_some w h (length pic) x (sym number ∙ z)) ∙ ap (λ k. enhance_leaves (refused k) pic m t) number

      go : (k : ℕ) → first (profile_rows s) ≡ k → byte_enhance_of w h pic (kept_of s) m t ≡ byte_enhance_of w h pic s m t
      go zero e = enhance_inside w h pic (kept_of s) m t (ap first (profile_kept s) ∙ e) ∙ enhance_kept w h pic s m t ∙ sym (enhance_inside w h pic s m t e)
      go (suc k) e =
          out (kept_of s) (λ z. omega (arith, sym (ap first (profile_kept s)) ∙ z, e))
          ∙ ap (λ x. enhance_leaves (refused x) pic m t) (outside_kept w h (length pic) s)
          ∙ sym (out s (λ z. omega (arith, z, e)))

  pub draw_bytes_read : (film : ℕ) (r : MapRecord) (win : Window) (m out : List ℕ)
      → byte_draw_of film w h pic (kept_of s) (kept_record r) win (take (entries_of s) m) out ≡ byte_draw_of film w h pic s r win m out
  draw_bytes_read film r win m out = go (first (profile_rows s)) refl
    where
      refuses : (x : Settings) (q : MapRecord) (ys : List ℕ) → (first (profile_rows x) ≡ 0 → ⊥)
          → byte_draw_of film w h pic x q win ys out ≡ draw_leaves (refused (outside_number w h (length pic) x)) out
      refuses x q ys outside =
          let number = draw_outside film w h pic x q win ys (length out) outside in
          (draw_bytes_table film w h pic x q win ys out).when_some (λ z. outside_some w h (length pic) x (sym number ∙ z)) ∙ ap (λ k. draw_leaves (refused k) out) number

      go : (k : ℕ) → first (profile_rows s) ≡ k → byte_draw_of film w h pic (kept_of s) (kept_record r) win (take (entries_of s) m) out ≡ byte_draw_of film w h pic s r win m out
      go zero e =
          draw_inside film w h pic (kept_of s) (kept_record r) win (take (entries_of s) m) out (ap first (profile_kept s) ∙ e)
          ∙ draw_kept film w h pic s (kept_record r) win (take (entries_of s) m) out
          ∙ draw_kept_record film w h pic s r win (take (entries_of s) m) out
          ∙ draw_front film w h pic s r win m out
          ∙ sym (draw_inside film w h pic s r win m out e)
      go (suc k) e =
          refuses (kept_of s) (kept_record r) (take (entries_of s) m) (λ z. omega (arith, sym (ap first (profile_kept s)) ∙ z, e))
          ∙ ap (λ x. draw_leaves (refused x) out) (outside_kept w h (length pic) s)
          ∙ sym (refuses s r m (λ z. omega (arith, z, e)))
