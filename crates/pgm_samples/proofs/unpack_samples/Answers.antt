use mathlib.Core.Path.{◌∙◌}
use borrow.Author.Rules.{rules}
use Rattle.base_lists.proofs.Fills.{filled_none, filled_step, filled_end, filled_onto}
use Rattle.pgm_samples.specs.Samples.{unpacked}
use Rattle.pgm_samples.proofs.unpack_samples.Goals as goal

pub loop-i-init : goal.loop-i-init
loop-i-init g c = filled_none _ _

pub loop-i-preserved : goal.loop-i-preserved
loop-i-preserved g c = filled_step _ _ c.loop-i.invariant (search rules) c.sample.ensures

pub returns : goal.returns
unfolding unpacked
returns g c = filled_end _ _ c.loop-i.invariant (search rules) (search rules) ∙ filled_onto _ _ _
