use mathlib.Core.Path.{sym, ◌∙◌}
use borrow.Author.Rules.{rules}
use Rattle.film_window.proofs.Frames.{line_cut, lines_first, lines_next, lines_end, lines_not}
use Rattle.film_window.proofs.window_within.Goals as goal

pub loop-y-init : goal.loop-y-init
loop-y-init c = lines_first _ _

pub returns-then-not-greys_within : goal.returns-then-not-greys_within
returns-then-not-greys_within c = sym (lines_not _ _ _ _ c.loop-y-test.true (sym c.greys_within.ensures ∙ c.if-not-greys_within.true) (c.row.ensures ∙ line_cut _ _ _ c.requires _ c.loop-y-test.true))

pub loop-y-preserved : goal.loop-y-preserved
loop-y-preserved c = lines_next _ _ c.loop-y.invariant (sym c.greys_within.ensures ∙ c.if-not-greys_within.false) (c.row.ensures ∙ line_cut _ _ _ c.requires _ c.loop-y-test.true)

pub returns : goal.returns
returns c = sym (lines_end _ _ _ _ c.loop-y.invariant (search rules) (search rules))
