-- `tile_count::count_rows` meets its contract: the rows passed are added.
use Rattle.base_lists.specs.Lists.{joined}
use Rattle.tile_count.specs.Tally.{FourAdded}
use Rattle.tile_count.proofs.Greys.{row_of}
use Rattle.tile_count.proofs.count_rows.Given as goal

abbrev pub invariant-loop-y : goal.invariant-loop-y
invariant-loop-y l = FourAdded (joined l.y (row_of l.picture l.stride l.rect)) l.by.min l.by.max l.by.bins l.initial.a l.initial.b l.initial.c l.initial.d l.a l.b l.c l.d
