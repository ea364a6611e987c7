-- `tile_count::add_ways` meets its contract: the entries passed are the sums.
use mathlib.Core.Path.{◌≡◌}
use Rattle.base_lists.specs.Lists.{filled}
use Rattle.tile_count.specs.Tally.{eight_at}
use Rattle.tile_count.proofs.add_ways.Given as goal

abbrev pub invariant-loop-k : goal.invariant-loop-k
invariant-loop-k l = l.counts ≡ filled (eight_at l.table) l.initial.counts l.k
