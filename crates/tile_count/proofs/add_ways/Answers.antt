use native.Mathlib.Omega.{arith}
use Rattle.base_lists.proofs.Fills.{filled_none, filled_step}
use Rattle.tile_count.proofs.add_ways.Goals as goal

pub loop-k-init : goal.loop-k-init
loop-k-init c = filled_none _ _

pub loop-k-preserved : goal.loop-k-preserved
loop-k-preserved c = filled_step _ _ c.loop-k.invariant (omega arith) c.eight_sum.ensures
