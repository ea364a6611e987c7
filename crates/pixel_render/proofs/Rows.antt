-- What single pixels of a film and of a row ask.
-- Assumes nothing.
use Prim.Native.Nat.{ℕ, ◌+◌, ◌<◌}
use mathlib.Core.Bool.{true}
use mathlib.Core.List.{List}
use mathlib.Core.Path.{◌≡◌}
use lib.ListN.{length, get_or}
use native.Mathlib.Omega.{arith}
use Rattle.base_lists.proofs.Alls.{all_at}
use Rattle.base_range.specs.Scan.{within}
use Rattle.pixel_place.specs.declared.Place.{Place}
use Rattle.pixel_place.proofs.Places.{place_sound}
use Rattle.film_settings.specs.declared.Settings.{Settings}
use Rattle.pixel_render.specs.Render.{column_place, row_place, Mapped, RenderPixelAsks, RenderRowAsks}

-- what a pixel of the film asks
pub pixel_asks : {w h : ℕ} {s : Settings} {m : List ℕ} → Mapped w h s m → {x y v : ℕ} → x < w → y < h → within s.min s.max v ≡ true → RenderPixelAsks s m (column_place w s x) (row_place h s y) v
pixel_asks mapped l k g = record { maps = mapped.maps; column = place_sound mapped.columns l; row = place_sound mapped.rows k; grey = g }

-- and what a pixel of a row asks
pub grey_asks : {w : ℕ} {s : Settings} {m : List ℕ} {left : ℕ} {row : Place} {vs : List ℕ} → RenderRowAsks w s m left row vs → (i : ℕ) → i < length vs
    → RenderPixelAsks s m (column_place w s (left + i)) row (get_or vs i 0)
grey_asks {w} {s} {m} {left} {row} {vs} asks i l =
    record {
      maps = asks.maps;
      column = place_sound asks.columns (omega (arith, asks.across));
      row = asks.row;
      grey = all_at (within s.min s.max) vs asks.greys i 0 l;
    }
