use borrow.Author.Rules.{rules}
use Rattle.film_window.proofs.Frames.{above_first, above_next}
use Rattle.film_window.proofs.none_above.Goals as goal

pub loop-grey-init : goal.loop-grey-init
loop-grey-init c = above_first _ c.args.greys.now

pub loop-grey-preserved : goal.loop-grey-preserved
loop-grey-preserved c = above_next _ c.args.greys.now c.loop-grey.invariant (search rules) (search rules)
