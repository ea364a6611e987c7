-- `pixel_place::locate` meets its contract: one law for each of its four ways, by the tile that x lies in.
use mathlib.Core.Path.{refl, sym, ◌∙◌}
use Rattle.pixel_place.proofs.Places.{way_first, lower_asks, way_lower, way_last, upper_asks, way_upper}
use Rattle.pixel_place.proofs.locate.Goals as goal

pub returns-then-t-eq0 : goal.returns-then-t-eq0
returns-then-t-eq0 c = c.single.ensures ∙ sym (way_first c.requires.0 c.requires.1 refl c.centre.ensures c.if-x-centre.true c.if-t-eq0.true)

pub pair_of-requires : goal.pair_of-requires
pair_of-requires c = lower_asks c.requires.0 c.requires.1 refl c.centre.ensures c.if-x-centre.true c.if-t-eq0.false

pub returns-else-t-eq0 : goal.returns-else-t-eq0
returns-else-t-eq0 c = c.pair_of.ensures ∙ sym (way_lower c.requires.0 c.requires.1 refl c.centre.ensures c.if-x-centre.true c.if-t-eq0.false)

pub returns-then-t-grid : goal.returns-then-t-grid
returns-then-t-grid c = c.single-then-t-grid.ensures ∙ sym (way_last c.requires.0 c.requires.1 refl c.centre.ensures c.if-x-centre.false c.if-t-grid.true)

pub pair_of-requires-else-t-grid : goal.pair_of-requires-else-t-grid
pair_of-requires-else-t-grid c = upper_asks c.requires.0 c.requires.1 refl c.centre.ensures c.if-x-centre.false c.if-t-grid.false

pub returns-else-t-grid : goal.returns-else-t-grid
returns-else-t-grid c = c.pair_of-else-t-grid.ensures ∙ sym (way_upper c.requires.0 c.requires.1 refl c.centre.ensures c.if-x-centre.false c.if-t-grid.false)
