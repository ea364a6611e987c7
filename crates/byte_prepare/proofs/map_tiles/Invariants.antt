-- `map_tiles` lays the mappings of all tiles and what clipping each took, and clears the scratch.
use Rattle.film_tiles.specs.Tiles.{spent_in}
use Rattle.film_tiles.proofs.Turns.{Laid, Listed}
use Rattle.byte_prepare.proofs.map_tiles.Given as goal

abbrev pub invariant-loop-k : goal.invariant-loop-k
invariant-loop-k l =
    Laid l.width l.height l.picture l.s l.initial.map l.map l.initial.scratch l.scratch l.k × Listed (spent_in l.width l.height l.picture l.s) l.initial.list l.list l.k
