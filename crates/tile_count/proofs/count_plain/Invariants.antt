-- `tile_count::count_plain` meets its contract: the rows passed are added.
use mathlib.Core.Path.{◌≡◌}
use Rattle.base_lists.specs.Lists.{joined}
use Rattle.tile_count.specs.Tally.{added_of}
use Rattle.tile_count.proofs.Greys.{row_of}
use Rattle.tile_count.proofs.count_plain.Given as goal

abbrev pub invariant-loop-y : goal.invariant-loop-y
invariant-loop-y l = l.counts ≡ added_of l.by.min l.by.max l.by.bins l.initial.counts (joined l.y (row_of l.picture l.stride l.rect))
