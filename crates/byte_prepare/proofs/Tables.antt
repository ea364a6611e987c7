-- The byte calls' tables for prepare and enhance: how `refusal` asks them, what they tell where none of their rows applies, that a list of 128 entries is enough for
-- every film of the profile, and that inside the profile they give what the wide calls' tables give.
-- Assumes nothing.
use Prim.Native.Nat.{ℕ, ◌*◌, ◌≤◌}
use mathlib.Core.Bool.{Bool, false}
use mathlib.Core.List.{List, ◌++◌}
use mathlib.Core.Path.{◌≡◌, sym, ap, ◌∙◌}
use native.Mathlib.Nat.{mul-le-mul, le_of_eq}
use native.Mathlib.Omega.{arith}
use lib.ListN.{length}
use Rattle.base_rows.specs.Refuse.{Row, first}
use Rattle.base_rows.proofs.Walk.{front, behind, first_both, first_same, first_rest}
use Rattle.film_settings.specs.declared.Settings.{Settings}
use Rattle.film_settings.specs.Settings.{clip_one_of, shared_rows, Tiled}
use Rattle.film_settings.proofs.Ready.{shared_numbered}
use Rattle.film_tiles.specs.Tiles.{spent_entries, FilmFooterAsks}
use Rattle.film_prepare.specs.Prepare.{work_rows, listed_rows, prepare_rows, enhance_rows}
use Rattle.film_tiles.proofs.Footers.{film_asks}
use Rattle.film_prepare.proofs.Table.{listed_work, table_parts, table_listed, work, over_parts}
use Rattle.byte_profile.specs.Profile.{profile_rows, byte_rows, Profile}
use Rattle.byte_profile.proofs.Profile.{byte_numbered, byte_ready, byte_inside, profile_none}
use Rattle.byte_prepare.specs.Bytes.{byte_prepare_rows, byte_enhance_rows, ByteWork, ByteMapTilesAsks}

-- inside the profile the rows 1 to 9, 31, 10, 30 and 11 give what the wide calls' do, whatever stands behind them
front_inside : (w h size : ℕ) (s : Settings) (room : ℕ) (rest : List Row) → first (profile_rows s) ≡ 0
    → first (byte_rows w h size s room ++ rest) ≡ first (shared_rows w h size s room ++ rest)
front_inside w h size s room rest p =
    first_same (byte_rows w h size s room) (shared_rows w h size s room) rest (byte_numbered w h size s room) (shared_numbered w h size s room)
    (byte_inside w h size s room p)

-- 8 x 8 tiles have 128 entries in the list
pairs_most : {s : Settings} → Profile s → spent_entries s ≤ 128
pairs_most {s} known = let few : s.across * s.down ≤ 64 = mul-le-mul (le_of_eq known.across) (le_of_eq known.down) in omega arith

-- ---- prepare

module _ (w h : ℕ) (pic : List ℕ) (s : Settings) (room scratch list : ℕ) where
  -- one of the rows 1 to 9, 31, 10, 30 and 11 applies
  pub bytes_shared : {r : ℕ} → r ≡ first (byte_rows w h (length pic) s room) → (r ≡ 0 → ⊥) → r ≡ first (byte_prepare_rows w h pic s room scratch list)
  unfolding byte_prepare_rows
  bytes_shared e z = front (byte_rows w h (length pic) s room) _ e z

  -- none of them does, and 12, 32 and 13 decide
  pub bytes_work : {a r : ℕ} → a ≡ first (byte_rows w h (length pic) s room) → a ≡ 0 → r ≡ first (listed_rows pic s scratch list)
      → r ≡ first (byte_prepare_rows w h pic s room scratch list)
  unfolding byte_prepare_rows
  bytes_work e z q = behind (byte_rows w h (length pic) s room) _ (byte_numbered w h (length pic) s room) e z q

  -- inside the profile the table gives what the wide call's does
  pub rows_inside : first (profile_rows s) ≡ 0 → first (byte_prepare_rows w h pic s room scratch list) ≡ first (prepare_rows w h pic s room scratch list)
  unfolding byte_prepare_rows
  rows_inside p = front_inside w h (length pic) s room (listed_rows pic s scratch list) p ∙ ap first (sym (table_parts w h pic s room scratch list))

  -- where none of its rows applies, the settings are inside the profile
  pub bytes_profile : first (byte_prepare_rows w h pic s room scratch list) ≡ 0 → Profile s
  unfolding byte_prepare_rows
  bytes_profile e = (byte_ready w h (length pic) s room (first_both (byte_rows w h (length pic) s room) _ (byte_numbered w h (length pic) s room) e).0).profile

  module _ {r : ℕ} (e : r ≡ first (byte_prepare_rows w h pic s room scratch list)) (z : r ≡ 0) where
    -- and none of the wide call's rows applies
    pub wide_rows : r ≡ first (prepare_rows w h pic s room scratch list)
    wide_rows = e ∙ rows_inside (profile_none s (bytes_profile (sym e ∙ z)))

    -- what the work below relies on
    pub bytes_film : ByteWork w h pic s room scratch
    bytes_film = record { work = work w h pic s room scratch list (sym wide_rows ∙ z); profile = bytes_profile (sym e ∙ z) }

    -- the record
    pub bytes_record : Tiled w h s
    bytes_record = bytes_film.work.ready.tiled

    -- the footer
    pub bytes_foot : FilmFooterAsks w h s
    bytes_foot = film_asks bytes_film.work.ready

    -- the tiles
    pub bytes_tiles : {o : Bool} → o ≡ clip_one_of s.clip → o ≡ false → ByteMapTilesAsks w h pic s room scratch list
    bytes_tiles q f = record { film = record { film = bytes_film; changes = sym q ∙ f }; pairs = table_listed w h pic s room scratch list (sym wide_rows ∙ z) }

-- ---- enhance, which is lent no list

module _ (w h : ℕ) (pic : List ℕ) (s : Settings) (room scratch : ℕ) where
  -- a list of 128 entries is never too short, so with one prepare's table gives what enhance's does
  pub rows_enough : first (byte_prepare_rows w h pic s room scratch 128) ≡ first (byte_enhance_rows w h pic s room scratch)
  unfolding byte_prepare_rows byte_enhance_rows
  rows_enough =
      first_rest (byte_rows w h (length pic) s room) (listed_rows pic s scratch 128) (work_rows pic s scratch) (byte_numbered w h (length pic) s room)
      (λ z. listed_work pic s scratch 128 (pairs_most (byte_ready w h (length pic) s room z).profile))

  -- inside the profile its table gives what the wide call's does
  pub enhance_rows_inside : first (profile_rows s) ≡ 0 → first (byte_enhance_rows w h pic s room scratch) ≡ first (enhance_rows w h pic s room scratch)
  unfolding byte_enhance_rows
  enhance_rows_inside p = front_inside w h (length pic) s room (work_rows pic s scratch) p ∙ ap first (sym (over_parts w h pic s room scratch))

  -- where none of its rows applies, the settings are inside the profile
  pub enhance_profile : first (byte_enhance_rows w h pic s room scratch) ≡ 0 → Profile s
  enhance_profile e = bytes_profile w h pic s room scratch 128 (rows_enough ∙ e)

  -- and none of the wide call's rows applies
  pub wide_enhance_rows : {r : ℕ} → r ≡ first (byte_enhance_rows w h pic s room scratch) → r ≡ 0 → r ≡ first (enhance_rows w h pic s room scratch)
  wide_enhance_rows e z = e ∙ enhance_rows_inside (profile_none s (enhance_profile (sym e ∙ z)))
