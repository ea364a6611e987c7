use mathlib.Core.Path.{refl}
use native.Mathlib.Omega.{arith}
use Rattle.tile_count.proofs.Counts.{added_none}
use Rattle.tile_count.proofs.Rows.{next_asks, row_next}
use Rattle.film_direct.proofs.add_row.Goals as goal

pub loop-grey-init : goal.loop-grey-init
loop-grey-init c = added_none _ _ _ _ c.requires.room

pub add_grey-requires : goal.add_grey-requires
add_grey-requires c = next_asks c.requires {x = c.loop-grey.grey-index} (omega arith) refl c.loop-grey.invariant

pub loop-grey-preserved : goal.loop-grey-preserved
loop-grey-preserved c = row_next c.requires {x = c.loop-grey.grey-index} (omega arith) refl c.loop-grey.invariant c.add_grey.ensures
