use mathlib.Core.Path.{refl, ◌∙◌}
use lib.ListN.{length-set}
use native.Mathlib.Omega.{arith}
use borrow.Author.Rules.{rules}
use Rattle.base_lists.proofs.Fills.{filled_none, filled_step, filled_end, filled_copy}
use Rattle.byte_narrow.proofs.widen.Goals as goal

pub loop-i-init : goal.loop-i-init
loop-i-init c = (search rules, refl, filled_none _ _)

pub overflow_cast-dst : goal.overflow_cast-dst
overflow_cast-dst c = omega (arith, c.shared_slice_known-1.given c.loop-i.i)

pub loop-i-preserved : goal.loop-i-preserved
loop-i-preserved c =
    (search rules, rw length-set (search rules), filled_step _ _ c.loop-i.invariant.2 (search rules) refl)

pub returns : goal.returns
returns c = filled_end _ _ c.loop-i.invariant.2 (search rules) (search rules) ∙ filled_copy _ _
