-- `add_row` adds the greys of a row: the greys passed are added.
use mathlib.Core.Path.{◌≡◌}
use lib.ListN.{take}
use Rattle.tile_count.specs.Tally.{added_of}
use Rattle.film_direct.proofs.add_row.Given as goal

abbrev pub invariant-loop-grey : goal.invariant-loop-grey
invariant-loop-grey l = l.counts ≡ added_of l.min l.max l.bins l.initial.counts (take l.grey-index l.row)
