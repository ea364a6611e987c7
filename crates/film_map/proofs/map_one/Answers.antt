-- `map_one` lays the mapping of tile k in its place, and answers what clipping took.
use native.Mathlib.Omega.{arith}
use Rattle.film_count.proofs.Tiles.{block_room, block_small}
use Rattle.film_map.proofs.Tiles.{copy_asks, front_long, from_asks, one_mapped}
use Rattle.film_map.proofs.map_one.Goals as goal

pub tile_pixels-pixels-requires : goal.tile_pixels-pixels-requires
tile_pixels-pixels-requires c = (c.requires.film.tiled, c.requires.tile)

pub overflow_mul-at : goal.overflow_mul-at
overflow_mul-at c = omega (arith, block_small c.requires.film.tiled c.requires.tile c.bins-each.ensures)

pub overflow_add-behind : goal.overflow_add-behind
overflow_add-behind c = omega (arith, block_small c.requires.film.tiled c.requires.tile c.bins-each.ensures)

pub copy_tile-requires : goal.copy_tile-requires
copy_tile-requires c = copy_asks c.args.map.now c.args.scratch.now c.requires c.bins-each.ensures

pub slice_bounds-from_counts-end-2 : goal.slice_bounds-from_counts-end-2
slice_bounds-from_counts-end-2 c = front_long c.args.map.now c.args.scratch.now c.requires c.bins-each.ensures c.copy_tile.ensures

pub offset_bounds-map-at : goal.offset_bounds-map-at
offset_bounds-map-at c = omega (arith, block_small c.requires.film.tiled c.requires.tile c.bins-each.ensures)

pub slice_bounds-from_counts-end-3 : goal.slice_bounds-from_counts-end-3
slice_bounds-from_counts-end-3 c = block_room _ c.requires.film.fitting c.requires.tile c.bins-each.ensures

pub from_counts-requires : goal.from_counts-requires
from_counts-requires c = from_asks c.args.map.now c.args.scratch.now c.requires c.bins-each.ensures c.copy_tile.ensures c.tile_pixels-pixels.ensures

pub returns : goal.returns
returns c = one_mapped c.args.map.now c.args.scratch.now c.requires c.bins-each.ensures c.copy_tile.ensures c.tile_pixels-pixels.ensures c.from_counts.ensures.counts c.from_counts.ensures.mapping c.from_counts.ensures.spent
