-- `tile_count::add_up` meets its contract: the entries passed are the sums.
use mathlib.Core.Path.{◌≡◌}
use Rattle.base_lists.specs.Lists.{filled}
use Rattle.tile_count.specs.Tally.{four_at}
use Rattle.tile_count.proofs.add_up.Given as goal

abbrev pub invariant-loop-k : goal.invariant-loop-k
invariant-loop-k l = l.counts ≡ filled (four_at l.a l.b l.c l.d) l.initial.counts l.k
