-- `map` lays down the mapping of the counts.
use mathlib.Core.Path.{◌≡◌}
use lib.ListN.{take}
use Rattle.base_lists.specs.Lists.{filled, total}
use Rattle.tile_map.specs.Tile.{mapped_of}
use Rattle.tile_map.proofs.map.Given as goal

abbrev pub invariant-loop-k : goal.invariant-loop-k
invariant-loop-k l = (l.sum ≡ total (take l.k l.counts)) × (l.out ≡ filled (mapped_of l.min l.max l.pixels l.counts) l.initial.out l.k)
