use mathlib.Core.Path.{refl}
use borrow.Author.Rules.{rules}
use Rattle.base_lists.proofs.Fills.{filled_none, filled_step}
use Rattle.base_lists.proofs.Windows.{filled_all}
use Rattle.pgm_plain_lines.specs.Pairs.{pairs100}
use Rattle.pgm_plain_lines.proofs.fill_pairs.Goals as goal

pub loop-i-init : goal.loop-i-init
loop-i-init c = filled_none _ _

pub loop-i-preserved : goal.loop-i-preserved
loop-i-preserved c = filled_step _ _ c.loop-i.invariant (search rules) refl

pub returns : goal.returns
unfolding pairs100
returns c = filled_all _ _ c.requires c.loop-i.invariant (search rules) (search rules)
