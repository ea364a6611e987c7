-- `tile_adds_up` gives whether the counts of tile k add up to its pixels.
use native.Mathlib.Omega.{arith}
use Rattle.film_count.proofs.Tiles.{block_room, block_small}
use Rattle.film_map.proofs.Tiles.{sum_asks, sum_found}
use Rattle.film_map.proofs.tile_adds_up.Goals as goal

pub tile_pixels-own-requires : goal.tile_pixels-own-requires
tile_pixels-own-requires c = (c.requires.film.tiled, omega (arith, c.requires.tile))

pub overflow_mul-from : goal.overflow_mul-from
overflow_mul-from c = omega (arith, block_small c.requires.film.tiled c.requires.tile c.bins-each.ensures)

pub overflow_add-to : goal.overflow_add-to
overflow_add-to c = omega (arith, block_small c.requires.film.tiled c.requires.tile c.bins-each.ensures)

pub offset_bounds-counts-from : goal.offset_bounds-counts-from
offset_bounds-counts-from c = omega (arith, block_small c.requires.film.tiled c.requires.tile c.bins-each.ensures)

pub slice_bounds-adds_up-end : goal.slice_bounds-adds_up-end
slice_bounds-adds_up-end c = block_room _ c.requires.film.fitting c.requires.tile c.bins-each.ensures

pub adds_up-requires : goal.adds_up-requires
adds_up-requires c = sum_asks _ c.requires c.bins-each.ensures

pub returns : goal.returns
returns c = sum_found _ _ _ _ _ c.bins-each.ensures c.tile_pixels-own.ensures c.adds_up.ensures
