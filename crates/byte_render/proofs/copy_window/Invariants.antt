-- `byte_render::copy_window` leaves the window's bytes, row by row, in the output, by draw's laws of a window's rows.
use mathlib.Core.Path.{◌≡◌}
use lib.ListN.{length}
use Rattle.base_lists.specs.Lists.{blocks}
use Rattle.film_window.proofs.Frames.{line}
use Rattle.byte_render.proofs.copy_window.Given as goal

abbrev pub invariant-loop-y : goal.invariant-loop-y
invariant-loop-y l = (length l.out ≡ length l.initial.out) × (l.out ≡ blocks l.win.width (line l.picture l.stride l.win) l.initial.out l.y)
