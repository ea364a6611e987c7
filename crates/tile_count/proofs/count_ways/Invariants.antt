-- `tile_count::count_ways` meets its contract: the rows passed are added.
use mathlib.Core.List.{map}
use Rattle.base_lists.specs.Lists.{joined}
use Rattle.tile_count.specs.Tally.{bin_in, WaysAdded}
use Rattle.tile_count.proofs.Greys.{row_of}
use Rattle.tile_count.proofs.count_ways.Given as goal

abbrev pub invariant-loop-y : goal.invariant-loop-y
invariant-loop-y g l = WaysAdded (map (bin_in l.by) (joined l.y (row_of (map g.T.Grey.value l.picture) l.stride l.rect))) l.initial.table l.table
