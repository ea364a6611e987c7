-- `pixel_table::move_four` meets its contract: each of the four greys is worked out from what stood in its place.
use Rattle.pixel_table.proofs.Turns.{moved_is, four_are}
use Rattle.pixel_table.proofs.move_four.Goals as goal

pub returns : goal.returns
returns g c =
    four_are _ _ _ _ _ _ c.requires.0.inside
    (moved_is _ _ _ _ _ c.moved.ensures c.grey-e.ensures)
    (moved_is _ _ _ _ _ c.moved-2.ensures c.grey-f.ensures)
    (moved_is _ _ _ _ _ c.moved-3.ensures c.grey-g.ensures)
    (moved_is _ _ _ _ _ c.moved-4.ensures c.grey-h.ensures)
