-- The level is found, and every bin raised by it.
use Rattle.tile_clip1986.proofs.Levels.{lift_asks, older_lifts}
use Rattle.tile_clip1986.proofs.raise.Goals as goal

pub lift-requires : goal.lift-requires
lift-requires c = lift_asks c.requires c.level-p.ensures

pub returns : goal.returns
returns c = older_lifts _ _ c.level-p.ensures c.lift.ensures
