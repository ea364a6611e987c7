use mathlib.Core.Path.{refl}
use native.Mathlib.Omega.{arith}
use Rattle.base_lists.proofs.Fills.{filled_none, filled_end}
use Rattle.pixel_table.proofs.Turns.{stretch_asks, stretch_can, stretch_next, run_moved}
use Rattle.pixel_table.proofs.move_run.Goals as goal

pub loop-n-init : goal.loop-n-init
loop-n-init g c = filled_none _ _

pub move_four-requires : goal.move_four-requires
move_four-requires g c = (stretch_asks _ c.requires.0 c.loop-n.invariant (omega arith) (omega arith) (omega arith), stretch_can _ c.requires.0 c.loop-n.invariant (omega arith) (omega arith) c.requires.1)

pub loop-n-preserved : goal.loop-n-preserved
loop-n-preserved g c = filled_end _ _ (stretch_next _ c.requires.0 c.loop-n.invariant (omega arith) (omega arith) c.move_four.ensures) (omega arith) (omega arith)

pub move_part-requires : goal.move_part-requires
move_part-requires g c =
    (stretch_asks _ c.requires.0 (filled_end _ _ c.loop-n.invariant (omega arith) (omega arith)) (omega arith) (omega arith) (omega arith), stretch_can _ c.requires.0 (filled_end _ _ c.loop-n.invariant (omega arith) (omega arith)) (omega arith) (omega arith) c.requires.1)

pub returns : goal.returns
returns g c = (run_moved _ _ _ _ _ (stretch_next _ c.requires.0 (filled_end _ _ c.loop-n.invariant (omega arith) (omega arith)) (omega arith) (omega arith) c.move_part.ensures), refl)
