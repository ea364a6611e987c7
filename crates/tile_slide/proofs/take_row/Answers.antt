use mathlib.Core.Path.{refl}
use native.Mathlib.Omega.{arith}
use Rattle.tile_slide.proofs.Taken.{taken_none}
use Rattle.tile_slide.proofs.Turns.{next_asks, row_next}
use Rattle.tile_slide.proofs.take_row.Goals as goal

pub loop-grey-init : goal.loop-grey-init
loop-grey-init c = taken_none _ _ _ _ c.requires.room

pub take_one-requires : goal.take_one-requires
take_one-requires c = next_asks c.requires {x = c.loop-grey.grey-index} (omega arith) refl c.loop-grey.invariant

pub loop-grey-preserved : goal.loop-grey-preserved
loop-grey-preserved c = row_next c.requires {x = c.loop-grey.grey-index} (omega arith) refl c.loop-grey.invariant c.take_one.ensures
