use native.Mathlib.Omega.{arith}
use Rattle.tile_count.proofs.Greys.{row_mapped}
use Rattle.tile_count.proofs.Ways.{ways_first, ways_row_asks, ways_next, ways_all}
use Rattle.tile_count.proofs.count_ways.Goals as goal

pub loop-y-init : goal.loop-y-init
loop-y-init g c = ways_first c.requires.0

pub count_parts-requires : goal.count_parts-requires
count_parts-requires g c =
    (ways_row_asks c.requires.0 c.loop-y.y c.loop-y.invariant (omega arith) (row_mapped g.T.Grey.value _ _ _ c.requires.0.asks.inside _ (omega arith) c.row_at.ensures), omega (arith, c.requires.1))

pub loop-y-preserved : goal.loop-y-preserved
loop-y-preserved g c =
    ways_next c.requires.0 c.loop-y.y c.loop-y.invariant (omega arith) (row_mapped g.T.Grey.value _ _ _ c.requires.0.asks.inside _ (omega arith) c.row_at.ensures) c.count_parts.ensures

pub returns : goal.returns
returns g c = ways_all c.requires.0 c.loop-y.y c.loop-y.invariant (omega arith) (omega arith)
