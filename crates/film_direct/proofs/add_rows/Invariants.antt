-- `add_rows` adds the greys of a tile: the rows passed are added.
use mathlib.Core.Path.{◌≡◌}
use Rattle.base_lists.specs.Lists.{joined}
use Rattle.tile_count.specs.Tally.{added_of}
use Rattle.tile_count.proofs.Greys.{row_of}
use Rattle.film_direct.proofs.add_rows.Given as goal

abbrev pub invariant-loop-y : goal.invariant-loop-y
invariant-loop-y l = l.counts ≡ added_of l.min l.max l.bins l.initial.counts (joined l.y (row_of l.picture l.stride l.rect))
