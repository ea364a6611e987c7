-- `paint` gives the film by the rule, row by row.
use mathlib.Core.Path.{◌≡◌}
use Rattle.base_lists.specs.Lists.{blocks}
use Rattle.film_direct.specs.Direct.{rule_row, BehindBins}
use Rattle.film_direct.proofs.paint.Given as goal

abbrev pub invariant-loop-y : goal.invariant-loop-y
invariant-loop-y l = (l.target ≡ blocks l.width (rule_row l.width l.height l.picture l.s) l.initial.target l.y) × BehindBins l.s l.initial.scratch l.scratch
