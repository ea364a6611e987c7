-- The bins of a row's pixels.
-- Assumes nothing.
use Rattle.std.specs.Prelude.{ℕ, true, List, ◌≡◌, length, get_or}
use Rattle.base_lists.specs.Lists.{tab, all}
use Rattle.base_range.specs.Scan.{within}
use Rattle.tile_bin.specs.Binning.{bin_of, factor_of}
use Rattle.tile_count.specs.Tally.{Scale}
use Rattle.film_settings.specs.declared.Settings.{Settings}
use Rattle.film_settings.specs.Settings.{bins_of}

-- the bins of greys vs
unfoldable pub binned_of : Settings → List ℕ → List ℕ
binned_of s vs = tab (length vs) (λ i. bin_of s.min s.max (bins_of s) (get_or vs i 0))

-- what bins in the places of greys ask
pub record BinsAsks (s : Settings) (vs : List ℕ) (factor : ℕ) : Type 0 where
  pub scale : Scale s.min s.max (bins_of s)
  pub greys : all (within s.min s.max) vs ≡ true
  pub by : factor ≡ factor_of s.min s.max (bins_of s)
