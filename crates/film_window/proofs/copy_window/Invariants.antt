-- `copy_window` leaves the window's pixels, row by row, in the output.
use mathlib.Core.Path.{◌≡◌}
use Rattle.base_lists.specs.Lists.{blocks}
use Rattle.film_window.proofs.Frames.{line}
use Rattle.film_window.proofs.copy_window.Given as goal

abbrev pub invariant-loop-y : goal.invariant-loop-y
invariant-loop-y l = l.out ≡ blocks l.win.width (line l.picture l.stride l.win) l.initial.out l.y
