-- `paint` gives the film, row by row, and leaves the scratch zero.
use mathlib.Core.Path.{◌≡◌}
use Rattle.base_lists.specs.Lists.{blocks}
use Rattle.film_around.specs.Around.{around_row, BehindTwiceBins}
use Rattle.film_around.proofs.paint.Given as goal

abbrev pub invariant-loop-y : goal.invariant-loop-y
invariant-loop-y l = (l.target ≡ blocks l.width (around_row l.width l.height l.picture l.side l.s) l.initial.target l.y) × BehindTwiceBins l.s l.initial.scratch l.scratch
