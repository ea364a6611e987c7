-- All marked numbers of document 01, and those of the orders since, hold of the rules.
-- Assumes nothing.
use mathlib.Core.Bool.{true}
use mathlib.Core.Path.{◌≡◌, refl}
use lib.Ieee.{of_bits, of_int, div, eq}
use Rattle.base_lists.specs.Lists.{tab, total, same}
use Rattle.tile_limit.specs.Limit.{floored_of, limit_of, used_of}
use Rattle.tile_clip.specs.Clip.{excess, share, left, walk, starts, clipped}
use Rattle.tile_clip.specs.Looks.{looks_in, looks_from, looks_of}
use Rattle.tile_clip1986.specs.Older.{level_from, level_of, older}
use Rattle.tile_bin.specs.Binning.{bin_of}
use Rattle.tile_map.specs.Tile.{mapped_of, mapping_of}
use Rattle.pixel_grid.specs.Grid.{edge_of, size_of, centre_of}
use Rattle.pixel_place.specs.Blend.{reached_of, place_of, grey_of}
use Rattle.pixel_rule.specs.Reach.{corner_tiles, in_use, used_tiles}
use Rattle.promise_films.specs.Worked.{weighed_numbers, grey_at, holds, all_hold, worked}

pub worked_numbers : all_hold worked ≡ true
unfolding same weighed_numbers grey_at holds all_hold worked of_bits of_int div eq tab total floored_of limit_of used_of excess share left walk starts clipped looks_in looks_from looks_of level_from level_of older bin_of mapped_of mapping_of edge_of size_of centre_of reached_of place_of grey_of corner_tiles in_use used_tiles
worked_numbers = refl
