use native.Mathlib.Omega.{arith}
use Rattle.tile_count.proofs.Ways.{ways_none, next_at, next_added}
use Rattle.tile_count.proofs.count_turn.Goals as goal

pub loop-way-init : goal.loop-way-init
loop-way-init c = ways_none _

pub count_at-requires : goal.count_at-requires
count_at-requires c = next_at c.requires.0 c.loop-way.way c.loop-way.invariant c.requires.1 (omega arith)

pub loop-way-preserved : goal.loop-way-preserved
loop-way-preserved c = next_added c.requires.0 c.loop-way.way c.loop-way.invariant (omega arith) c.count_at.ensures
