-- `tile_map::mapping` meets its contract: the counts in the front of the scratch are clipped and mapped.
use Rattle.tile_map.proofs.Tiles.{tile_asks, tile_mapped}
use Rattle.tile_map.proofs.mapping.Goals as goal

pub from_counts-requires : goal.from_counts-requires
from_counts-requires c = tile_asks c.requires _ c.count.ensures

pub returns : goal.returns
returns c = tile_mapped c.requires _ c.count.ensures _ _ c.from_counts.ensures.counts c.from_counts.ensures.mapping c.from_counts.ensures.spent
