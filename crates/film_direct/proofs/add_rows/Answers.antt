use native.Mathlib.Omega.{arith}
use Rattle.tile_count.proofs.Turns.{rows_first, rows_next, rows_end, row_asks}
use Rattle.tile_count.proofs.Greys.{inside_part}
use Rattle.film_direct.proofs.add_rows.Goals as goal

pub loop-y-init : goal.loop-y-init
loop-y-init c = rows_first _ _ _ _ _ c.requires.asks.enough

pub add_row-requires : goal.add_row-requires
add_row-requires c = row_asks c.requires c.loop-y.y c.loop-y.invariant (omega arith)

pub loop-y-preserved : goal.loop-y-preserved
loop-y-preserved c = rows_next _ _ _ _ _ c.loop-y.y c.loop-y.invariant (inside_part _ _ _ c.requires.asks.inside _ (omega arith)) c.add_row.ensures

pub returns : goal.returns
returns c = rows_end _ _ _ _ _ _ _ c.loop-y.y c.loop-y.invariant (omega arith) (omega arith)
