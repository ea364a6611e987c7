-- `test_set::axes::made_axis` meets its contract: the rule's axis where the side fits its tiles. Assumes nothing.
use Rattle.std.proofs.Common.{◌∙◌}
use Rattle.test_set.proofs.Answers.{axis_none, axis_many, axis_short, axis_long, axis_fitting}
use Rattle.test_set.proofs.axes.made_axis.Goals as goal

pub returns-then-tiles-lt2 : goal.returns-then-tiles-lt2
returns-then-tiles-lt2 c = c.no_axis.ensures ∙ axis_none _ _ c.if-tiles-lt2.true

pub returns-then-tiles-gt16 : goal.returns-then-tiles-gt16
returns-then-tiles-gt16 c = c.no_axis-then-tiles-gt16.ensures ∙ axis_many _ _ c.if-tiles-lt2.false c.if-tiles-gt16.true

pub returns-then-side-tiles : goal.returns-then-side-tiles
returns-then-side-tiles c = c.no_axis-then-side-tiles.ensures ∙ axis_short _ _ c.if-tiles-lt2.false c.if-tiles-gt16.false c.if-side-tiles.true

pub returns-then-side-gt4096 : goal.returns-then-side-gt4096
returns-then-side-gt4096 c = c.no_axis-then-side-gt4096.ensures ∙ axis_long _ _ c.if-tiles-lt2.false c.if-tiles-gt16.false c.if-side-tiles.false c.if-side-gt4096.true

pub returns : goal.returns
returns c = c.axis_for.ensures ∙ axis_fitting _ _ c.if-tiles-lt2.false c.if-tiles-gt16.false c.if-side-tiles.false c.if-side-gt4096.false
