-- `base_range::all_within` meets its contract: all greys that were passed lie in Min to Max where the least and the greatest of them do.
use mathlib.Core.List.{◌∷◌}
use lib.ListN.{take}
use Rattle.base_range.proofs.Spans.{Spans}
use Rattle.base_range.proofs.all_within.Given as goal

abbrev pub invariant-loop-v : goal.invariant-loop-v
invariant-loop-v l = Spans l.min l.max (l.initial.low ∷ take l.v-index l.rest) l.low l.high
