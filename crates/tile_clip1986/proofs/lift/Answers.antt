use native.Mathlib.Omega.{arith}
use borrow.Author.Rules.{rules}
use Rattle.tile_clip.proofs.Passes.{passing_most, passing_next, passing_bins, passing_sum}
use Rattle.tile_clip1986.proofs.lift.Goals as goal

pub overflow_add-sum : goal.overflow_add-sum
overflow_add-sum c = omega (arith, c.becomes.ensures, passing_most c.loop-count.invariant (search rules), c.requires.small)

pub loop-count-preserved : goal.loop-count-preserved
loop-count-preserved c = passing_next c.loop-count.invariant (search rules) c.becomes.ensures (omega (arith, c.becomes.ensures))

pub returns : goal.returns
returns c = (passing_bins c.loop-count.invariant (search rules), passing_sum c.loop-count.invariant (search rules))
