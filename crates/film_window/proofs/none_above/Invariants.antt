-- `none_above` tells whether all greys are at most Max: the greatest of them is. Where the range begins at 0 the least plays no part.
use lib.ListN.{take}
use Rattle.base_range.proofs.Spans.{Spans}
use Rattle.film_window.proofs.none_above.Given as goal

abbrev pub invariant-loop-grey : goal.invariant-loop-grey
invariant-loop-grey l = Spans 0 l.max (take l.grey-index l.greys) 0 l.high
