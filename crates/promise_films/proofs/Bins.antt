-- Order 3, of settings: the bins of a film that no row refuses have each a grey of the range, and where the bins are more than the greys some bin has none.
-- Assumes nothing.
use Prim.Native.Nat.{ℕ, ◌+◌, ◌-◌, ◌<◌}
use native.Mathlib.Omega.{arith}
use Rattle.tile_bin.proofs.Bins.{every_bin, bins_unreached}
use Rattle.film_settings.specs.declared.Settings.{Settings}
use Rattle.film_settings.specs.Settings.{bins_of, Tiled}
use Rattle.promise_films.specs.Films.{BinsReached, BinUnreached}

-- ---- settings

-- of a film with sides, grid, range and bins that no row refuses
pub tiled_reached : {w h : ℕ} {s : Settings} → Tiled w h s → BinsReached s
tiled_reached {w} {h} {s} tiled k l = every_bin s.min s.max (bins_of s) k (omega (arith, tiled.min)) (omega (arith, tiled.bins)) tiled.reach l

-- where the bins are more than the greys of the range
pub more_unreached : (s : Settings) → s.max - s.min + 1 < bins_of s → BinUnreached s
more_unreached s more = bins_unreached s.min s.max (bins_of s) more
