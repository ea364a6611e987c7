-- `tile_map::from_counts` meets its contract: the clipped counts are mapped.
use Rattle.tile_map.proofs.Tiles.{from_map_asks, from_mapped}
use Rattle.tile_map.proofs.from_counts.Goals as goal

pub map-requires : goal.map-requires
map-requires c = from_map_asks _ c.requires (c.clip_by-clipped.ensures.counts, c.clip_by-clipped.ensures.over)

pub returns : goal.returns
returns c =
    let clipped = c.clip_by-clipped.ensures in
    record {
      counts = clipped.counts;
      mapping = from_mapped _ c.requires (clipped.counts, clipped.over) _ c.map.ensures;
      spent = clipped.spent;
    }
