-- `tile_value` gives the value of one bin by one tile, counted anew.
use native.Mathlib.Omega.{arith}
use mathlib.Core.Path.{refl}
use Rattle.film_direct.proofs.Values.{corner_pixels, corner_count, corner_value_asks, corner_is, corner_leaves}
use Rattle.film_direct.proofs.tile_value.Goals as goal

pub overflow_mul-pixels : goal.overflow_mul-pixels
overflow_mul-pixels c = omega (arith, corner_pixels c.requires c.tile_rect-rect.ensures)

pub overflow_cast-pixels : goal.overflow_cast-pixels
overflow_cast-pixels c = omega (arith, corner_pixels c.requires c.tile_rect-rect.ensures)

pub count_tile-requires : goal.count_tile-requires
count_tile-requires c = corner_count c.requires c.tile_rect-rect.ensures c.bins-bins.ensures

pub value-requires : goal.value-requires
value-requires c = corner_value_asks c.requires c.tile_rect-rect.ensures c.bins-bins.ensures _ c.count_tile.ensures

pub returns : goal.returns
returns c = (corner_leaves c.requires c.tile_rect-rect.ensures c.bins-bins.ensures _ c.count_tile.ensures c.value.ensures refl, corner_is c.requires c.tile_rect-rect.ensures c.bins-bins.ensures _ c.count_tile.ensures c.value.ensures)
