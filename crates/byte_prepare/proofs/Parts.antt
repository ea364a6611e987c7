-- The tables of prepare and enhance on bytes: their parts, that 13 is never given, nor 32 by enhance, and that outside the profile they give 30 or an earlier number.
-- What is said of prepare's with every list is said of enhance's by Tables: `rows_enough`.
-- Assumes nothing.
use Prim.Native.Nat.{ℕ, zero, suc}
use mathlib.Core.Bool.{Bool, true, false, cond}
use mathlib.Core.List.{List, ◌++◌}
use mathlib.Core.Logic.{◌≢◌}
use mathlib.Core.Path.{◌≡◌, refl, sym, ap, ◌∙◌}
use native.Mathlib.Omega.{arith}
use lib.Dec.{ltb, eqb}
use lib.ListN.{length}
use borrow.Author.Tests.{ltb-true, ltb-false}
use Rattle.base_lists.specs.Lists.{all}
use Rattle.base_rows.specs.Refuse.{first}
use Rattle.base_rows.proofs.Walk.{first_never, first_front, first_behind, first_none, numbers_append}
use Rattle.film_settings.specs.declared.Settings.{Settings}
use Rattle.film_settings.specs.Settings.{bins_of, setting_rows}
use Rattle.film_tiles.specs.Tiles.{spent_entries}
use Rattle.film_prepare.specs.Prepare.{work_rows, listed_rows}
use Rattle.film_prepare.proofs.Table.{work_numbers, listed_numbers, listed_scratch, listed_short, listed_greys}
use Rattle.byte_narrow.specs.Narrow.{is_byte}
use Rattle.byte_profile.specs.Profile.{profile_rows, byte_rows, Profile}
use Rattle.byte_profile.proofs.Profile.{byte_numbers, byte_numbered, byte_ready}
use Rattle.byte_profile.proofs.Outside.{outside_front}
use Rattle.byte_profile.proofs.Greys.{bytes_all_within}
use Rattle.byte_prepare.specs.Bytes.{byte_prepare_rows, byte_enhance_rows}

-- ---- prepare

module _ (w h : ℕ) (pic : List ℕ) (s : Settings) (room scratch list : ℕ) where
  -- its parts
  pub byte_rows_lem : byte_prepare_rows w h pic s room scratch list ≡ byte_rows w h (length pic) s room ++ listed_rows pic s scratch list
  unfolding byte_prepare_rows
  byte_rows_lem = refl

  -- 12, 32 and 13 of bytes inside the profile never give 13
  work_never_13 : Profile s → all is_byte pic ≡ true → first (listed_rows pic s scratch list) ≢ 13
  work_never_13 known bytes q = go (ltb scratch (bins_of s)) (ltb list (spent_entries s)) refl refl
    where
      go : (a b : Bool) → ltb scratch (bins_of s) ≡ a → ltb list (spent_entries s) ≡ b → ⊥
      go true b e f = let z : ◌≡◌ {A = ℕ} 12 13 = listed_scratch pic s scratch list refl (ltb-true scratch (bins_of s) e) ∙ q in omega arith
      go false true e f =
          let z : ◌≡◌ {A = ℕ} 32 13 = listed_short pic s scratch list refl (ltb-false scratch (bins_of s) e) (ltb-true list (spent_entries s) f) ∙ q in
          omega arith
      go false false e f =
          let z : ◌≡◌ {A = ℕ} 0 13 =
          listed_greys pic s scratch list refl (ltb-false scratch (bins_of s) e) (ltb-false list (spent_entries s) f) true (sym (bytes_all_within pic known bytes)) ∙ q in
          omega arith

  -- so 13 is never given
  pub bytes_never_13 : all is_byte pic ≡ true → first (byte_prepare_rows w h pic s room scratch list) ≢ 13
  unfolding all
  bytes_never_13 bytes q = go (first (byte_rows w h (length pic) s room)) refl
    where
      go : (n : ℕ) → first (byte_rows w h (length pic) s room) ≡ n → ⊥
      go zero z =
          work_never_13 (byte_ready w h (length pic) s room z).profile bytes
          (sym (first_behind (byte_rows w h (length pic) s room) (listed_rows pic s scratch list) (first_none _ (byte_numbered w h (length pic) s room) z)) ∙ sym (ap first byte_rows_lem) ∙ q)
      go (suc n) z =
          first_never 13 (byte_rows w h (length pic) s room) refl (rw (byte_numbers w h (length pic) s room) refl)
          (sym (first_front (byte_rows w h (length pic) s room) (listed_rows pic s scratch list) (λ e. omega (arith, z, e))) ∙ sym (ap first byte_rows_lem) ∙ q)

  -- nor is 14, which is struck
  pub bytes_never_14 : first (byte_prepare_rows w h pic s room scratch list) ≢ 14
  unfolding all
  bytes_never_14 =
      first_never 14 (byte_prepare_rows w h pic s room scratch list) refl
      (rw (byte_rows_lem, numbers_append (byte_rows w h (length pic) s room) (listed_rows pic s scratch list), byte_numbers w h (length pic) s room, listed_numbers pic s scratch list) refl)

  -- outside the profile: 30, or an earlier number
  pub bytes_outside : first (profile_rows s) ≢ 0
      → first (byte_prepare_rows w h pic s room scratch list) ≡ cond (eqb (first (setting_rows w h (length pic) s)) 0) 30 (first (setting_rows w h (length pic) s))
  bytes_outside outside = ap first byte_rows_lem ∙ outside_front w h (length pic) s room (listed_rows pic s scratch list) outside

-- ---- enhance

-- it is lent no list, so 32 is never given
pub enhance_never_32 : (w h : ℕ) (pic : List ℕ) (s : Settings) (room scratch : ℕ) → first (byte_enhance_rows w h pic s room scratch) ≢ 32
unfolding all byte_enhance_rows
enhance_never_32 w h pic s room scratch =
    first_never 32 (byte_rows w h (length pic) s room ++ work_rows pic s scratch) refl
    (rw (numbers_append (byte_rows w h (length pic) s room) (work_rows pic s scratch), byte_numbers w h (length pic) s room, work_numbers pic s scratch) refl)
