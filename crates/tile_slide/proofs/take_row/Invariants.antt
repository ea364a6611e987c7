-- `tile_slide::take_row` meets its contract: the greys passed are taken.
use mathlib.Core.Path.{◌≡◌}
use lib.ListN.{take}
use Rattle.tile_slide.specs.Slide.{taken_of}
use Rattle.tile_slide.proofs.take_row.Given as goal

abbrev pub invariant-loop-grey : goal.invariant-loop-grey
invariant-loop-grey l = l.counts ≡ taken_of l.by.min l.by.max l.by.bins l.initial.counts (take l.grey-index l.row)
