-- The rows that all calls share, part by part, for calls that ask some of the parts: their numbers, what is free where a table of several is, and what of the settings each reads.
-- Assumes nothing.
use Prim.Native.Nat.{ℕ}
use mathlib.Core.Bool.{false}
use mathlib.Core.List.{[], ◌∷◌, ◌++◌}
use mathlib.Core.Path.{◌≡◌, refl, sym, ap₂, ◌∙◌}
use lib.Dec.{ltb}
use Rattle.base_lists.specs.Lists.{all}
use Rattle.base_rows.specs.Refuse.{row, first, numbers_of, Numbered}
use Rattle.base_rows.proofs.Walk.{first_both, each_append}
use Rattle.film_settings.specs.declared.Settings.{Settings}
use Rattle.film_settings.specs.Settings.{bins_of, kept_of, clip_bad_of, side_rows, length_rows, size_rows, grid_rows, range_rows, clip_rows, grey_rows, room_rows, setting_rows, shared_rows}
use Rattle.film_settings.proofs.Ready.{side_numbered, size_numbered, grid_numbered, range_numbered, room_numbers}
use Rattle.film_settings.proofs.Like.{range_kept}

-- ---- the numbers

-- of 1 and 2
pub size_numbers : (w h size : ℕ) → numbers_of (size_rows w h size) ≡ 1 ∷ 1 ∷ 1 ∷ 1 ∷ 2 ∷ []
unfolding numbers_of size_rows side_rows length_rows
size_numbers w h size = refl

-- of 10
pub clip_numbers : (s : Settings) → numbers_of (clip_rows s) ≡ 10 ∷ []
unfolding numbers_of clip_rows
clip_numbers s = refl

-- of 7 to 9, 31 and 10
pub grey_numbers : (s : Settings) → numbers_of (grey_rows s) ≡ 7 ∷ 8 ∷ 9 ∷ 9 ∷ 31 ∷ 10 ∷ []
unfolding numbers_of grey_rows range_rows clip_rows
grey_numbers s = refl

-- above 0: of these
pub grey_numbered : (s : Settings) → Numbered (grey_rows s)
unfolding all grey_rows
grey_numbered s = each_append (ltb 0) (range_rows s) (clip_rows s) (range_numbered s) (rw (clip_numbers s) refl)

-- and of 11
pub room_numbered : (s : Settings) (room : ℕ) → Numbered (room_rows s room)
unfolding all
room_numbered s room = rw (room_numbers s room) refl

-- ---- the parts

-- 7 to 9 and 31, and 10
pub grey_parts : (s : Settings) → grey_rows s ≡ range_rows s ++ clip_rows s
unfolding grey_rows
grey_parts s = refl

-- 1 and 2, 3 to 6, and 7 to 9, 31 and 10
pub setting_parts : (w h size : ℕ) (s : Settings) → setting_rows w h size s ≡ size_rows w h size ++ (grid_rows w h s ++ grey_rows s)
unfolding setting_rows
setting_parts w h size s = refl

-- ---- where a table is free, its parts are

-- 1 and 2
pub size_both : (w h size : ℕ) → first (size_rows w h size) ≡ 0 → (first (side_rows w h) ≡ 0) × (first (length_rows w h size) ≡ 0)
unfolding size_rows
size_both w h size e = first_both (side_rows w h) (length_rows w h size) (side_numbered w h) e

-- 7 to 9 and 31, and 10
pub grey_both : (s : Settings) → first (grey_rows s) ≡ 0 → (first (range_rows s) ≡ 0) × (first (clip_rows s) ≡ 0)
unfolding grey_rows
grey_both s e = first_both (range_rows s) (clip_rows s) (range_numbered s) e

-- 1 and 2, 3 to 6, and 7 to 9, 31 and 10
pub setting_all : (w h size : ℕ) (s : Settings) → first (setting_rows w h size s) ≡ 0
    → (first (size_rows w h size) ≡ 0) × (first (grid_rows w h s) ≡ 0) × (first (grey_rows s) ≡ 0)
unfolding setting_rows
setting_all w h size s e =
    let a = first_both (size_rows w h size) (grid_rows w h s ++ grey_rows s) (size_numbered w h size) e in
    let b = first_both (grid_rows w h s) (grey_rows s) (grid_numbered w h s) a.1 in
    (a.0, b.0, b.1)

-- ---- what a part reads of the settings

-- the bins: of no other setting
pub bins_alike : (s s' : Settings) → s.bins ≡ s'.bins → bins_of s ≡ bins_of s'
unfolding bins_of
bins_alike s s' e = rw e refl

-- 3 to 6: the grid
pub grid_alike : (w h : ℕ) (s s' : Settings) → s.across ≡ s'.across → s.down ≡ s'.down → grid_rows w h s ≡ grid_rows w h s'
unfolding grid_rows
grid_alike w h s s' across down = rw (across, down) refl

-- 7 to 9 and 31: Min, Max and the bins as they are given
range_given : (s s' : Settings) → s.bins ≡ s'.bins → s.min ≡ s'.min → s.max ≡ s'.max → range_rows s ≡ range_rows s'
unfolding range_rows bins_of
range_given s s' bins min max = rw (bins, min, max) refl

-- or with 0 read as 128
pub range_alike : (s s' : Settings) → bins_of s ≡ bins_of s' → s.min ≡ s'.min → s.max ≡ s'.max → range_rows s ≡ range_rows s'
range_alike s s' bins min max = sym (range_kept s) ∙ range_given (kept_of s) (kept_of s') bins min max ∙ range_kept s'

-- 10: whether the clip setting is refused; no other row reads it, and none reads the edition
pub clip_alike : (s s' : Settings) → clip_bad_of s.clip ≡ clip_bad_of s'.clip → clip_rows s ≡ clip_rows s'
unfolding clip_rows
clip_alike s s' clip = rw clip refl

-- 7 to 9, 31 and 10: all of these
pub grey_alike : (s s' : Settings) → bins_of s ≡ bins_of s' → s.min ≡ s'.min → s.max ≡ s'.max → clip_bad_of s.clip ≡ clip_bad_of s'.clip → grey_rows s ≡ grey_rows s'
unfolding grey_rows
grey_alike s s' bins min max clip = ap₂ (λ a b. a ++ b) (range_alike s s' bins min max) (clip_alike s s' clip)

-- settings that agree in grid, bins, Min and Max, and of whose clip settings both are refused or neither is
module _ (s s' : Settings) (across : s.across ≡ s'.across) (down : s.down ≡ s'.down) (bins : bins_of s ≡ bins_of s') (min : s.min ≡ s'.min) (max : s.max ≡ s'.max)
    (clip : clip_bad_of s.clip ≡ clip_bad_of s'.clip) where
  -- 11
  pub room_alike : (room : ℕ) → room_rows s room ≡ room_rows s' room
  unfolding room_rows
  room_alike room = rw (bins, across, down) refl

  -- so the rows up to 10 are the same
  pub setting_alike : (w h size : ℕ) → setting_rows w h size s ≡ setting_rows w h size s'
  unfolding setting_rows
  setting_alike w h size = ap₂ (λ a b. size_rows w h size ++ (a ++ b)) (grid_alike w h s s' across down) (grey_alike s s' bins min max clip)

  -- and those up to 11
  pub shared_alike : (w h size room : ℕ) → shared_rows w h size s room ≡ shared_rows w h size s' room
  unfolding shared_rows
  shared_alike w h size room = ap₂ (λ a b. a ++ b) (setting_alike w h size) (room_alike room)

-- ---- a side that is no shorter than its grid

-- leaves 3 and 4 of 3 to 6
pub grid_long : (w h : ℕ) (s : Settings) → ltb w s.across ≡ false → ltb h s.down ≡ false
    → first (grid_rows w h s) ≡ first (row 3 (ltb s.across 2) ∷ row 3 (ltb 16 s.across) ∷ row 4 (ltb s.down 2) ∷ row 4 (ltb 16 s.down) ∷ [])
unfolding grid_rows first
grid_long w h s columns rows = rw (columns, rows) refl
