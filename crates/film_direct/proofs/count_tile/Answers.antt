-- `count_tile` counts a tile: greys added to cleared counts are the counts.
use Rattle.tile_count.proofs.Turns.{clear_asks, clear_counts}
use Rattle.film_direct.proofs.count_tile.Goals as goal

pub add_rows-requires : goal.add_rows-requires
add_rows-requires c = clear_asks _ c.requires c.bin_factor-factor.ensures c.clear.ensures

pub returns : goal.returns
returns c = clear_counts _ _ _ _ _ c.clear.ensures c.add_rows.ensures
