-- `count_tile` lays the counts of tile k in their place.
use Rattle.film_tiles.proofs.Tiles.{rect_asks}
use Rattle.film_count.proofs.Tiles.{block_room, count_asks, count_done}
use Rattle.film_count.proofs.count_tile.Goals as goal

pub tile_rect-rect-requires : goal.tile_rect-rect-requires
tile_rect-rect-requires c = rect_asks c.requires.film.tiled c.requires.tile

pub slice_bounds-count-end : goal.slice_bounds-count-end
slice_bounds-count-end c = block_room _ c.requires.film.fitting c.requires.tile c.bins-bins.ensures

pub count-requires : goal.count-requires
count-requires c = count_asks c.args.counts.now c.requires c.tile_rect-rect.ensures c.bins-bins.ensures

pub returns : goal.returns
returns c = count_done c.args.counts.now c.requires c.tile_rect-rect.ensures c.bins-bins.ensures c.count.ensures
