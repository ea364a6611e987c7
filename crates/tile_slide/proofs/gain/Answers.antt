-- `tile_slide::gain` meets its contract: the column that the region gains is added, where there is one.
use Rattle.tile_slide.proofs.Regions.{gained_strip, gained_none, gained_asks}
use Rattle.tile_slide.proofs.gain.Goals as goal

pub returns-else-a-e : goal.returns-else-a-e
returns-else-a-e c = gained_none c.requires c.end_of-a.ensures c.end_of-e.ensures c.if-a-e.false

pub strip-column-requires : goal.strip-column-requires
strip-column-requires c = gained_strip c.requires c.end_of-a.ensures c.end_of-e.ensures

pub count_plain-requires : goal.count_plain-requires
count_plain-requires c = gained_asks c.requires c.end_of-a.ensures c.end_of-e.ensures c.strip-column.ensures c.if-a-e.true
