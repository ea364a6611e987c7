-- `film_sets::span` meets its contract.
use Rattle.std.proofs.Common.{◌≡◌, take}
use Rattle.film_sets.specs.Sets.{held, span_of}
use Rattle.film_sets.proofs.span.Given as goal

abbrev pub invariant-loop-r : goal.invariant-loop-r
invariant-loop-r l = l.sum ≡ span_of (take l.r-index (take l.n (held l.fn.room)))
