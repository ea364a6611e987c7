-- What the promises of around speak of beside one call: two films that agree on a region, a film and a part of it.
-- A name with ' is lent memory at the end.
-- Assumes nothing.
use Prim.Native.Nat.{ℕ}
use mathlib.Core.Path.{◌≡◌}
use Rattle.pixel_rule.specs.Reach.{AgreeOn}
use Rattle.tile_slide.specs.Slide.{region_rect}
use Rattle.promise_around.specs.Regions.{gridless, Part, Margin}
use Rattle.promise_around.proofs.Runs.{AroundCall}

-- ---- the region's pixels alone

-- two films of one size, with the same side and settings, that agree on the region of a pixel
pub record Two (c d : AroundCall) (i j : ℕ) : Type 0 where
  pub width : d.width ≡ c.width
  pub height : d.height ≡ c.height
  pub side : d.side ≡ c.side
  pub like : gridless c.settings ≡ gridless d.settings
  pub agree : AgreeOn c.width c.pixels d.pixels (region_rect c.width c.height c.side i j)

-- ---- a part of the film

-- a film and a part of it, with the same side and settings, and a pixel of the part that has its margin
pub record PartOf (c d : AroundCall) (left top i j : ℕ) : Type 0 where
  pub part : Part c.width c.height c.pixels left top d.width d.height d.pixels
  pub side : d.side ≡ c.side
  pub like : gridless d.settings ≡ gridless c.settings
  pub across : Margin c.side c.width left d.width i
  pub down : Margin c.side c.height top d.height j
