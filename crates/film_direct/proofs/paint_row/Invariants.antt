-- `paint_row` gives row y of the film by the rule.
use mathlib.Core.Path.{◌≡◌}
use Rattle.base_lists.specs.Lists.{filled}
use Rattle.pixel_rule.specs.Rule.{rule_grey}
use Rattle.film_direct.specs.Direct.{BehindBins}
use Rattle.film_direct.proofs.paint_row.Given as goal

abbrev pub invariant-loop-x : goal.invariant-loop-x
invariant-loop-x l = (l.out ≡ filled (λ i. rule_grey l.width l.height l.picture l.s i l.y) l.initial.out l.x) × BehindBins l.s l.initial.scratch l.scratch
