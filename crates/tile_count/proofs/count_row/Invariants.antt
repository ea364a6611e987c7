-- `tile_count::count_row` meets its contract: the greys passed are added.
use mathlib.Core.Path.{◌≡◌}
use lib.ListN.{take}
use Rattle.tile_count.specs.Tally.{added_of}
use Rattle.tile_count.proofs.count_row.Given as goal

abbrev pub invariant-loop-grey : goal.invariant-loop-grey
invariant-loop-grey l = l.counts ≡ added_of l.by.min l.by.max l.by.bins l.initial.counts (take l.grey-index l.row)
