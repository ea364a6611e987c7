use native.Mathlib.Omega.{arith}
use borrow.Author.Rules.{rules}
use Rattle.tile_clip.proofs.Passes.{passing_most, passing_next, passing_bins, passing_sum}
use Rattle.tile_clip.proofs.Whole.{gains_most}
use Rattle.tile_clip.proofs.pass.Goals as goal

pub overflow_add-sum : goal.overflow_add-sum
overflow_add-sum c =
    let a = c.args in
    omega (arith, c.gains-more.ensures, passing_most c.loop-count.invariant (search rules), gains_most a.limit a.counts.now)

pub loop-count-preserved : goal.loop-count-preserved
loop-count-preserved c = passing_next c.loop-count.invariant (search rules) (omega (arith, c.gains-more.ensures)) (omega (arith, c.gains-more.ensures))

pub returns : goal.returns
returns c = record { bins = passing_bins c.loop-count.invariant (search rules); gains = passing_sum c.loop-count.invariant (search rules) }
