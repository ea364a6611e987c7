use mathlib.Core.Path.{refl}
use native.Mathlib.Omega.{arith}
use Rattle.tile_count.proofs.Counts.{added_none}
use Rattle.tile_count.proofs.Rows.{next_asks, row_next}
use Rattle.tile_count.proofs.count_row.Goals as goal

pub loop-grey-init : goal.loop-grey-init
loop-grey-init c = added_none _ _ _ _ c.requires.room

pub count_one-requires : goal.count_one-requires
count_one-requires c = next_asks c.requires {x = c.loop-grey.grey-index} (omega arith) refl c.loop-grey.invariant

pub loop-grey-preserved : goal.loop-grey-preserved
loop-grey-preserved c = row_next c.requires {x = c.loop-grey.grey-index} (omega arith) refl c.loop-grey.invariant c.count_one.ensures
