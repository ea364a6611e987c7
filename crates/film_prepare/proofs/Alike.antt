-- What the tables of prepare and enhance read of the settings: of the clip setting whether 10 refuses it, of the edition nothing.
-- Assumes nothing.
use Prim.Native.Nat.{ℕ}
use mathlib.Core.List.{List, ◌++◌}
use mathlib.Core.Path.{◌≡◌, refl, ap₂}
use lib.ListN.{length}
use Rattle.film_settings.specs.declared.Settings.{Settings}
use Rattle.film_settings.specs.Settings.{bins_of, clip_bad_of}
use Rattle.film_settings.proofs.Parts.{shared_alike}
use Rattle.film_prepare.specs.Prepare.{work_rows, listed_rows, enhance_rows, prepare_rows}

-- settings that agree in grid, bins, Min and Max
module _ (s s' : Settings) (across : s.across ≡ s'.across) (down : s.down ≡ s'.down) (bins : bins_of s ≡ bins_of s') (min : s.min ≡ s'.min) (max : s.max ≡ s'.max) where
  -- 12 and 13
  pub work_alike : (pic : List ℕ) (scratch : ℕ) → work_rows pic s scratch ≡ work_rows pic s' scratch
  unfolding work_rows
  work_alike pic scratch = rw (bins, min, max) refl

  -- 12, 32 and 13
  pub listed_alike : (pic : List ℕ) (scratch list : ℕ) → listed_rows pic s scratch list ≡ listed_rows pic s' scratch list
  unfolding listed_rows
  listed_alike pic scratch list = rw (bins, across, down, min, max) refl

  -- and of whose clip settings both are refused or neither is
  module _ (clip : clip_bad_of s.clip ≡ clip_bad_of s'.clip) (w h : ℕ) (pic : List ℕ) (room scratch : ℕ) where
    -- enhance's table is the same
    pub over_alike : enhance_rows w h pic s room scratch ≡ enhance_rows w h pic s' room scratch
    unfolding enhance_rows
    over_alike = ap₂ (λ a b. a ++ b) (shared_alike s s' across down bins min max clip w h (length pic) room) (work_alike pic scratch)

    -- and prepare's
    pub table_alike : (list : ℕ) → prepare_rows w h pic s room scratch list ≡ prepare_rows w h pic s' room scratch list
    unfolding prepare_rows
    table_alike list = ap₂ (λ a b. a ++ b) (shared_alike s s' across down bins min max clip w h (length pic) room) (listed_alike pic scratch list)
