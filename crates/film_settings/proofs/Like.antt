-- Settings with bins 0 kept as 128: the rows and the sizes that follow from settings are those of the settings as they were given.
-- Assumes nothing.
use Prim.Native.Nat.{ℕ, zero, suc}
use mathlib.Core.Bool.{cond}
use mathlib.Core.List.{◌++◌}
use mathlib.Core.Path.{◌≡◌, refl, ap₂}
use native.Mathlib.Omega.{arith}
use lib.Dec.{eqb}
use borrow.Author.Tests.{ne_eqb}
use Rattle.film_settings.specs.declared.Settings.{Settings}
use Rattle.film_settings.specs.Settings.{bins_of, kept_of, grid_rows, range_rows, clip_rows, grey_rows, room_rows, setting_rows, shared_rows}

-- these settings with other bins
abbrev with_bins : Settings → ℕ → Settings
with_bins s n = record { across = s.across; down = s.down; bins = n; min = s.min; max = s.max; clip = s.clip; edition = s.edition }

-- what is the same with bins 128 as with 0 is the same with the settings as they are kept
kept_law {ℓ} : {A : Type ℓ} (f : Settings → A) → ((s : Settings) → f (with_bins s 128) ≡ f (with_bins s 0)) → (s : Settings) → f (kept_of s) ≡ f s
unfolding bins_of
kept_law f zeros s = go s.bins
  where
    go : (n : ℕ) → f (with_bins s (cond (eqb n 0) 128 n)) ≡ f (with_bins s n)
    go zero = zeros s
    go (suc n) = rw (ne_eqb (suc n) 0 (λ z. omega arith)) refl

-- "Bins B: 2 to 4096. 0 means 128.": the bins
pub bins_kept : (s : Settings) → bins_of (kept_of s) ≡ bins_of s
unfolding bins_of
bins_kept s = kept_law bins_of (λ x. refl) s

-- 7 to 9 and 31: only 9 takes the bins as they are given, and it refuses neither 0 nor 128; 31 takes them with 0 read as 128
pub range_kept : (s : Settings) → range_rows (kept_of s) ≡ range_rows s
unfolding range_rows bins_of
range_kept s = kept_law range_rows (λ x. refl) s

-- 3 to 6 do not speak of bins
pub grid_kept : (w h : ℕ) (s : Settings) → grid_rows w h (kept_of s) ≡ grid_rows w h s
unfolding grid_rows
grid_kept w h s = refl

-- nor does 10
pub clip_kept : (s : Settings) → clip_rows (kept_of s) ≡ clip_rows s
unfolding clip_rows
clip_kept s = refl

-- 11 takes them with 0 read as 128
pub room_kept : (s : Settings) (room : ℕ) → room_rows (kept_of s) room ≡ room_rows s room
unfolding room_rows
room_kept s room = rw (bins_kept s) refl

-- so the rows up to 10 are the same
pub setting_kept : (w h size : ℕ) (s : Settings) → setting_rows w h size (kept_of s) ≡ setting_rows w h size s
unfolding setting_rows grey_rows
setting_kept w h size s = rw (grid_kept w h s, range_kept s, clip_kept s) refl

-- and those up to 11
pub shared_kept : (w h size : ℕ) (s : Settings) (room : ℕ) → shared_rows w h size (kept_of s) room ≡ shared_rows w h size s room
unfolding shared_rows
shared_kept w h size s room = ap₂ (λ a b. a ++ b) (setting_kept w h size s) (room_kept s room)

-- settings that agree in grid, Min, Max, clip and edition, and in the bins with 0 read as 128, are kept as the same
pub kept_same : (s s' : Settings) → s'.across ≡ s.across → s'.down ≡ s.down → bins_of s' ≡ bins_of s → s'.min ≡ s.min → s'.max ≡ s.max → s'.clip ≡ s.clip → s'.edition ≡ s.edition
    → kept_of s' ≡ kept_of s
kept_same s s' across down bins min max clip edition = rw (bins, across, down, min, max, clip, edition) refl
