-- `film_sets::exceeds` meets its contract: what is left of the buffer, and the sets before, are all of it.
use Rattle.std.proofs.Common.{◌≡◌, ◌+◌, take}
use Rattle.film_sets.specs.Sets.{span_of}
use Rattle.film_sets.proofs.exceeds.Given as goal

abbrev pub invariant-loop-r : goal.invariant-loop-r
invariant-loop-r l = l.left + span_of (take l.r-index l.sets) ≡ l.size
