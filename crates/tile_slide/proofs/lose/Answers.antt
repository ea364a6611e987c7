-- `tile_slide::lose` meets its contract: the column that the region loses is taken, where there is one.
use Rattle.tile_slide.proofs.Regions.{lost_strip, lost_none, lost_asks}
use Rattle.tile_slide.proofs.lose.Goals as goal

pub returns-else-a-e : goal.returns-else-a-e
returns-else-a-e c = lost_none c.requires c.first_of-a.ensures c.first_of-e.ensures c.if-a-e.false

pub strip-column-requires : goal.strip-column-requires
strip-column-requires c = lost_strip c.requires c.first_of-a.ensures c.first_of-e.ensures

pub take_rect-requires : goal.take_rect-requires
take_rect-requires c = lost_asks c.requires c.first_of-a.ensures c.first_of-e.ensures c.strip-column.ensures c.if-a-e.true
