use native.Mathlib.Omega.{arith}
use Rattle.pixel_table.proofs.Patches.{patch_none, patch_end}
use Rattle.pixel_table.proofs.Turns.{moved_is, turn_asks, turn_can, turn_next}
use Rattle.pixel_table.proofs.move_part.Goals as goal

pub loop-i-init : goal.loop-i-init
loop-i-init g c = patch_none _ _ _ (omega (arith, c.requires.0.order, c.requires.0.inside))

pub moved-requires : goal.moved-requires
moved-requires g c = turn_asks _ c.requires.0 (omega arith) (omega arith) c.loop-i.invariant

pub grey-requires : goal.grey-requires
grey-requires g c = turn_can _ c.requires.0 (omega arith) (omega arith) c.loop-i.invariant c.requires.1 c.moved.ensures

pub loop-i-preserved : goal.loop-i-preserved
loop-i-preserved g c = turn_next _ c.requires.0 (omega arith) (omega arith) c.loop-i.invariant (moved_is _ _ _ _ _ c.moved.ensures c.grey.ensures)

pub returns : goal.returns
returns g c = patch_end _ _ _ c.loop-i.i c.loop-i.invariant (omega (arith, c.requires.0.order)) (omega arith)
