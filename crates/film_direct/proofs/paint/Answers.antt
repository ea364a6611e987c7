use mathlib.Core.Path.{refl}
use native.Mathlib.Omega.{arith}
use Rattle.base_lists.proofs.Fills.{blocks_none}
use Rattle.film_direct.proofs.Rows.{rows_next, rows_end}
use Rattle.film_direct.proofs.Pixels.{behind_first, behind_next, behind_clear}
use Rattle.film_direct.proofs.paint.Goals as goal

pub loop-y-init : goal.loop-y-init
loop-y-init c = (blocks_none _ _ _, behind_first)

pub loop-y-preserved : goal.loop-y-preserved
loop-y-preserved c = ((rows_next c.requires _ _ _ c.loop-y.invariant.0 c.paint_row.ensures.1), behind_next c.loop-y.invariant.1 c.paint_row.ensures.0)

pub returns : goal.returns
returns c = (rows_end c.requires _ _ _ c.loop-y.invariant.0 (omega arith) (omega arith) refl, behind_clear c.loop-y.invariant.1 c.bins-each.ensures c.clear.ensures)
