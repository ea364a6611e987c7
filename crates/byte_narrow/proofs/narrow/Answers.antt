use mathlib.Core.Path.{refl, ◌∙◌}
use lib.ListN.{length-set, get_or}
use native.Mathlib.Omega.{arith}
use borrow.Author.Rules.{rules}
use borrow.Author.Tests.{ltb-true}
use Rattle.base_lists.proofs.Alls.{all_at}
use Rattle.base_lists.proofs.Fills.{filled_none, filled_step, filled_end, filled_copy}
use Rattle.byte_narrow.specs.Narrow.{is_byte}
use Rattle.byte_narrow.proofs.narrow.Goals as goal

pub loop-k-init : goal.loop-k-init
loop-k-init c = (search rules, refl, filled_none _ _)

pub overflow_cast-dst : goal.overflow_cast-dst
overflow_cast-dst c =
    omega (arith, ltb-true (get_or c.args.src.now c.loop-k.k 0) 256 (all_at is_byte _ c.requires.1 c.loop-k.k 0 (search rules)))

pub loop-k-preserved : goal.loop-k-preserved
loop-k-preserved c =
    (search rules, rw length-set (search rules), filled_step _ _ c.loop-k.invariant.2 (search rules) refl)

pub returns : goal.returns
returns c = filled_end _ _ c.loop-k.invariant.2 (search rules) (search rules) ∙ filled_copy _ _
