-- `tile_count::count_four_in` meets its contract: four counts added up are the counts.
use native.Mathlib.Omega.{arith}
use Rattle.tile_count.proofs.Fours.{ways_fit, ways_end}
use Rattle.tile_count.proofs.count_four_in.Goals as goal

pub add_up-requires : goal.add_up-requires
add_up-requires g c = ways_fit {m = g.row.N} c.requires.0 c.requires.1 (omega (arith, c.requires.2)) c.count_rows.ensures

pub returns : goal.returns
returns g c = ways_end {m = g.row.N} c.requires.0 c.requires.1 (omega (arith, c.requires.2)) c.count_rows.ensures _ c.add_up.ensures
