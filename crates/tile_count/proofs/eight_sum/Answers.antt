use Prim.Native.Nat.{◌+◌, ◌*◌}
use mathlib.Core.Path.{ap, ◌∙◌}
use lib.ListN.{get_or}
use native.Mathlib.Omega.{arith}
use Rattle.tile_count.proofs.Ways.{front_none, front_next, front_fits, front_end}
use Rattle.tile_count.proofs.eight_sum.Goals as goal

pub loop-j-init : goal.loop-j-init
loop-j-init c = front_none _ _

pub overflow_add-sum-in-loop-j : goal.overflow_add-sum-in-loop-j
overflow_add-sum-in-loop-j c = omega (arith, c.loop-j.invariant, front_fits c.args.table.now c.args.k c.loop-j.j (omega arith), c.requires.fits c.args.k (omega arith))

pub loop-j-preserved : goal.loop-j-preserved
loop-j-preserved c = ap (λ s. s + get_or c.args.table.now (c.args.k * 8 + c.loop-j.j) 0) c.loop-j.invariant ∙ front_next _ _ _

pub returns : goal.returns
returns c = c.loop-j.invariant ∙ front_end _ _ _ (omega arith) (omega arith)
