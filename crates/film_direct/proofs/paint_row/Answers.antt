use native.Mathlib.Omega.{arith}
use Rattle.base_lists.proofs.Fills.{filled_none, filled_step}
use Rattle.base_lists.proofs.Windows.{filled_all}
use Rattle.film_direct.specs.Direct.{rule_row}
use Rattle.film_direct.proofs.Pixels.{behind_first, behind_next}
use Rattle.film_direct.proofs.paint_row.Goals as goal

pub loop-x-init : goal.loop-x-init
loop-x-init c = (filled_none _ _, behind_first)

pub loop-x-preserved : goal.loop-x-preserved
loop-x-preserved c = (filled_step _ _ c.loop-x.invariant.0 (omega (arith, c.requires.room)) c.pixel-grey.ensures.1.grey, behind_next c.loop-x.invariant.1 c.pixel-grey.ensures.0)

pub returns : goal.returns
unfolding rule_row
returns c = (c.loop-x.invariant.1, filled_all _ _ c.requires.room c.loop-x.invariant.0 (omega arith) (omega arith))
