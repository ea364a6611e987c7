-- Order 1, byte films: the settings that byte calls take, and the rows of the refusal table that they share.
-- Assumes nothing.
use Rattle.std.specs.Prelude.{ℕ, ◌≤◌, Bool, true, not, ◌||◌, List, [], ◌∷◌, ◌++◌, ◌≡◌, eqb}
use Rattle.tile_limit.specs.declared.Edition.TheVariants.{Ours}
use Rattle.base_rows.specs.Refuse.{Row, row}
use Rattle.film_settings.specs.declared.Settings.{Settings}
use Rattle.film_settings.specs.Settings.{bins_of, same_edition_of, setting_rows, room_rows, Ready}

-- "bins 64, 128 (or 0) or 256": 0 is read as 128 before this is asked
abbrev pub bins_in_of : ℕ → Bool
bins_in_of b = eqb b 64 || (eqb b 128 || eqb b 256)

-- "30 for a setting outside the profile": "Min 0, Max 255, grid 8 by 8 only, bins 64, 128 (or 0) or 256", a row for each; order 8: "The byte profile keeps the present edition only."
unfoldable pub profile_rows : Settings → List Row
profile_rows s =
    row 30 (not (eqb s.across 8))
    ∷ row 30 (not (eqb s.down 8))
    ∷ row 30 (not (bins_in_of (bins_of s)))
    ∷ row 30 (not (eqb s.min 0))
    ∷ row 30 (not (eqb s.max 255))
    ∷ row 30 (not (same_edition_of s.edition Ours))
    ∷ []

-- the rows 1 to 9, 31 and 10, then 30, then 11
unfoldable pub byte_rows : (w h size : ℕ) (s : Settings) (room : ℕ) → List Row
byte_rows w h size s room = setting_rows w h size s ++ (profile_rows s ++ room_rows s room)

-- what a call knows of settings inside the profile
pub record Profile (s : Settings) : Type 0 where
  pub across : s.across ≡ 8
  pub down : s.down ≡ 8
  pub bins : bins_in_of (bins_of s) ≡ true
  pub few : bins_of s ≤ 256
  pub min : s.min ≡ 0
  pub max : s.max ≡ 255
  pub edition : s.edition ≡ Ours

-- what a byte call knows once none of the rows 1 to 9, 31, 10, 30 and 11 applies
pub record ByteReady (w h size : ℕ) (s : Settings) (room : ℕ) : Type 0 where
  pub ready : Ready w h size s room
  pub profile : Profile s
