-- `film_sets::move_down` meets its contract: the blocks that were moved so far lie at their place, and all else is as it was.
use Rattle.std.proofs.Common.{◌≡◌, ◌+◌, ◌*◌}
use Rattle.film_sets.specs.Sets.{moved_down}
use Rattle.film_sets.proofs.move_down.Given as goal

abbrev pub invariant-loop-b : goal.invariant-loop-b
invariant-loop-b l = l.map ≡ moved_down l.initial.map l.to l.from (l.from + 64 * l.b)
