-- `tile_count::count_part` meets its contract: the front of the line holds the places.
use lib.ListN.{length-map}
use Rattle.tile_count.proofs.Ways.{front_asks, front_added}
use Rattle.tile_count.proofs.count_part.Goals as goal

pub count_line-requires : goal.count_line-requires
count_line-requires g c = front_asks c.requires.0 _ c.places.ensures _ (length-map c.args.row.now g.T.Grey.value)

pub returns : goal.returns
returns g c = front_added c.requires.0 _ c.places.ensures _ (length-map c.args.row.now g.T.Grey.value) c.count_line.ensures
