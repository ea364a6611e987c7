use mathlib.Core.Path.{◌∙◌}
use borrow.Author.Rules.{rules}
use Rattle.base_lists.proofs.Fills.{blocks_none}
use Rattle.film_window.proofs.Frames.{line_cut, rows_next, rows_end}
use Rattle.film_window.proofs.copy_window.Goals as goal

pub loop-y-init : goal.loop-y-init
loop-y-init c = blocks_none _ _ _

pub loop-y-preserved : goal.loop-y-preserved
loop-y-preserved c = rows_next c.requires c.loop-y.invariant c.loop-y.auto.out c.loop-y-test.true (c.row.ensures ∙ line_cut _ _ _ c.requires.framed _ c.loop-y-test.true) c.copy.ensures

pub returns : goal.returns
returns c = rows_end c.requires c.loop-y.invariant (search rules) (search rules)
