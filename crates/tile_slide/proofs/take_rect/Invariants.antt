-- `tile_slide::take_rect` meets its contract: the rows passed are taken.
use mathlib.Core.Path.{◌≡◌}
use Rattle.base_lists.specs.Lists.{joined}
use Rattle.tile_slide.specs.Slide.{taken_of}
use Rattle.tile_count.proofs.Greys.{row_of}
use Rattle.tile_slide.proofs.take_rect.Given as goal

abbrev pub invariant-loop-y : goal.invariant-loop-y
invariant-loop-y l = l.counts ≡ taken_of l.by.min l.by.max l.by.bins l.initial.counts (joined l.y (row_of l.picture l.stride l.rect))
