-- `map_tile` lays the mapping of tile k in its place, and answers what clipping it took.
use native.Mathlib.Omega.{arith}
use Rattle.film_tiles.proofs.Tiles.{rect_asks}
use Rattle.film_tiles.proofs.Films.{tile_small, tile_room, tile_done}
use Rattle.byte_prepare.proofs.Works.{wide_tile, byte_tile_asks}
use Rattle.byte_prepare.proofs.map_tile.Goals as goal

pub tile_rect-rect-requires : goal.tile_rect-rect-requires
tile_rect-rect-requires c = rect_asks c.requires.tiles.film.work.ready.tiled c.requires.tile

pub overflow_mul-a : goal.overflow_mul-a
overflow_mul-a c = omega (arith, tile_small (wide_tile c.requires) c.bins-bins.ensures)

pub overflow_add-e : goal.overflow_add-e
overflow_add-e c = omega (arith, tile_small (wide_tile c.requires) c.bins-bins.ensures)

pub slice_bounds-mapping-end : goal.slice_bounds-mapping-end
slice_bounds-mapping-end c = tile_room (wide_tile c.requires) c.bins-bins.ensures

pub mapping-requires : goal.mapping-requires
mapping-requires c = byte_tile_asks c.args.map.now c.requires c.tile_rect-rect.ensures c.bins-bins.ensures

pub returns : goal.returns
returns c = tile_done (wide_tile c.requires) c.tile_rect-rect.ensures c.bins-bins.ensures c.mapping.ensures
