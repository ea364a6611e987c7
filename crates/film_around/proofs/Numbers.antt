-- The worked numbers of order 13 hold of the rules.
-- Assumes nothing.
use mathlib.Core.Bool.{true}
use mathlib.Core.Path.{◌≡◌, refl}
use lib.Ieee.{of_bits}
use Rattle.base_lists.specs.Lists.{tab, joined, total, times, same}
use Rattle.tile_limit.specs.Limit.{floored_of, limit_of}
use Rattle.tile_clip.specs.Clip.{excess, share, left, walk, starts, clipped}
use Rattle.tile_clip1986.specs.Older.{level_from, level_of, older}
use Rattle.tile_bin.specs.Binning.{bin_of}
use Rattle.tile_count.specs.Tally.{greys_of, counts_of}
use Rattle.tile_map.specs.Tile.{clipped_by, divided_by, mapped_of, mapping_of, counts_mapping, tile_counts, tile_mapping}
use Rattle.film_settings.specs.Settings.{bins_of}
use Rattle.tile_slide.specs.Slide.{first_of, end_of, region_rect}
use Rattle.film_around.specs.Around.{region_pixels, region_mapping, around_grey}
use Rattle.film_around.specs.Worked.{holds, all_hold, worked}

pub worked_numbers : all_hold worked ≡ true
unfolding same holds all_hold worked of_bits tab joined total times floored_of limit_of excess share left walk starts clipped level_from level_of older bin_of greys_of counts_of clipped_by divided_by mapped_of mapping_of counts_mapping tile_counts tile_mapping bins_of first_of end_of region_rect region_pixels region_mapping around_grey
worked_numbers = refl
