-- `through` adds up the counts of bins 0 to k.
use mathlib.Core.Path.{◌≡◌}
use lib.ListN.{take}
use Rattle.base_lists.specs.Lists.{total}
use Rattle.tile_value.proofs.through.Given as goal

abbrev pub invariant-loop-count : goal.invariant-loop-count
invariant-loop-count l = l.sum ≡ total (take l.count-index l.count-items)
