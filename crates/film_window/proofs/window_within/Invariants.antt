-- `window_within` tells whether all pixels of the window lie in Min to Max: each row is looked at, and one that does not is enough.
use mathlib.Core.Bool.{true}
use mathlib.Core.Path.{◌≡◌}
use Rattle.base_lists.specs.Lists.{all, joined}
use Rattle.base_range.specs.Scan.{within}
use Rattle.film_window.proofs.Frames.{line}
use Rattle.film_window.proofs.window_within.Given as goal

abbrev pub invariant-loop-y : goal.invariant-loop-y
invariant-loop-y l = all (within l.min l.max) (joined l.y (line l.picture l.stride l.win)) ≡ true
