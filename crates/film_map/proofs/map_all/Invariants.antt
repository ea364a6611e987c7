-- `map_all` lays the mappings of all tiles down, and what clipping each took, and clears the scratch.
use Rattle.film_tiles.proofs.Turns.{Listed}
use Rattle.film_map.specs.Counts.{spent_from}
use Rattle.film_map.proofs.Turns.{Mapping}
use Rattle.film_map.proofs.map_all.Given as goal

abbrev pub invariant-loop-k : goal.invariant-loop-k
invariant-loop-k l =
    Mapping l.width l.height l.s l.counts l.initial.map l.map l.initial.scratch l.scratch l.k × Listed (spent_from l.width l.height l.s l.counts) l.initial.list l.list l.k
