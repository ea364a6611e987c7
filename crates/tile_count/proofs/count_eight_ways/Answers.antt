-- `tile_count::count_eight_ways` meets its contract: eight ways added up are the counts.
use native.Mathlib.Omega.{arith}
use Rattle.tile_count.proofs.Ways.{ways_asks, ways_fit, ways_end}
use Rattle.tile_count.proofs.count_eight_ways.Goals as goal

pub count_ways-requires : goal.count_ways-requires
count_ways-requires g c = (ways_asks c.requires.0 c.requires.1 c.requires.2, omega arith)

pub add_ways-requires : goal.add_ways-requires
add_ways-requires g c = (ways_fit c.requires.0 c.requires.1 c.requires.2 c.count_ways.ensures, c.requires.0.enough)

pub returns : goal.returns
returns g c = ways_end c.requires.0 c.requires.1 c.requires.2 c.count_ways.ensures _ c.add_ways.ensures
