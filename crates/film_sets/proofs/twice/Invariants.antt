-- `film_sets::twice` meets its contract: what is left of the sets decides as all do.
use Rattle.std.proofs.Common.{◌≡◌, drop}
use Rattle.film_sets.specs.Sets.{twice}
use Rattle.film_sets.proofs.twice.Given as goal

abbrev pub invariant-loop-i : goal.invariant-loop-i
invariant-loop-i l = twice l.sets ≡ twice (drop l.i l.sets)
