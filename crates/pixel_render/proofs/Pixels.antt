-- Laws of single pixels by their greys: each is the pixel of its bin.
-- Assumes nothing.
use Prim.Native.Nat.{ℕ, ◌<◌}
use mathlib.Core.Bool.{true}
use mathlib.Core.List.{List}
use mathlib.Core.Path.{◌≡◌, refl, sym, ap, ap₂, ◌∙◌}
use lib.ListN.{take}
use native.Mathlib.Omega.{arith}
use Rattle.base_range.specs.Scan.{within}
use Rattle.tile_bin.specs.Binning.{bin_of}
use Rattle.tile_bin.proofs.Bins.{bin_below}
use Rattle.pixel_place.specs.declared.Place.{Place}
use Rattle.film_settings.specs.declared.Settings.{Settings}
use Rattle.film_settings.specs.Settings.{bins_of, entries_of}
use Rattle.pixel_weigh.specs.Weigh.{corners_of, CornerAsks}
pub use Rattle.pixel_weigh.proofs.Pixels.{tile_index}
use Rattle.pixel_weigh.proofs.Pixels.{corners_within, corners_fields, corners_front}
use Rattle.pixel_render.specs.Render.{pixel_of, RenderPixelAsks}

-- a pixel is one of its bin
pub pixel_corners : (s : Settings) (m : List ℕ) (column row : Place) (v : ℕ) → pixel_of s m column row v ≡ corners_of s m column row (bin_of s.min s.max (bins_of s) v)
unfolding pixel_of
pixel_corners s m column row v = refl

-- it goes by the grid across, the bins and the range of its settings alone
pub pixel_fields : (s s' : Settings) (m : List ℕ) (column row : Place) (v : ℕ) → s'.across ≡ s.across → bins_of s' ≡ bins_of s → s'.min ≡ s.min → s'.max ≡ s.max
    → pixel_of s' m column row v ≡ pixel_of s m column row v
pixel_fields s s' m column row v across bins min max =
    pixel_corners s' m column row v
    ∙ corners_fields s s' m column row (bin_of s'.min s'.max (bins_of s') v) across bins
    ∙ ap₂ (λ a b. corners_of s m column row (bin_of a b (bins_of s') v)) min max
    ∙ ap (λ n. corners_of s m column row (bin_of s.min s.max n v)) bins
    ∙ sym (pixel_corners s m column row v)

-- which is one of the bins
pub pixel_bin : {s : Settings} {m : List ℕ} {column row : Place} {v : ℕ} → RenderPixelAsks s m column row v → bin_of s.min s.max (bins_of s) v < bins_of s
pixel_bin {s} {m} {column} {row} {v} asks = bin_below s.min s.max (bins_of s) v asks.grey (omega (arith, asks.maps.scale.some))

-- so a pixel asks what one of its bin asks
pub bin_asks : {s : Settings} {m : List ℕ} {column row : Place} {v : ℕ} → RenderPixelAsks s m column row v → CornerAsks s m column row (bin_of s.min s.max (bins_of s) v)
bin_asks asks = record { maps = asks.maps; column = asks.column; row = asks.row; bin = pixel_bin asks }

-- a rendered pixel lies in Min to Max
pub pixel_within : {s : Settings} {m : List ℕ} {column row : Place} {v : ℕ} → RenderPixelAsks s m column row v → within s.min s.max (pixel_of s m column row v) ≡ true
pixel_within {s} {m} {column} {row} {v} asks =
    ap (within s.min s.max) (pixel_corners s m column row v)
    ∙ corners_within (bin_asks asks)

-- and is the same in map buffers that agree in the mappings' entries
pub pixel_front : {s : Settings} {m : List ℕ} {column row : Place} {v : ℕ} → RenderPixelAsks s m column row v → (m' : List ℕ) → take (entries_of s) m ≡ take (entries_of s) m'
    → pixel_of s m column row v ≡ pixel_of s m' column row v
pixel_front {s} {m} {column} {row} {v} asks m' e = pixel_corners s m column row v ∙ corners_front (bin_asks asks) m' e ∙ sym (pixel_corners s m' column row v)
