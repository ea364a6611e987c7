use mathlib.Core.Path.{◌∙◌}
use native.Mathlib.Omega.{arith}
use Rattle.tile_count.proofs.Greys.{inside_row}
use Rattle.tile_count.proofs.Fours.{rows_none, rows_asks, rows_more, rows_all}
use Rattle.tile_count.proofs.count_rows.Goals as goal

pub loop-y-init : goal.loop-y-init
loop-y-init c = rows_none c.requires

pub count_quarters-requires : goal.count_quarters-requires
count_quarters-requires c = rows_asks c.requires c.loop-y.y c.loop-y.invariant (omega arith) (c.row_at.ensures ∙ inside_row _ _ _ c.requires.asks.inside _ (omega arith))

pub loop-y-preserved : goal.loop-y-preserved
loop-y-preserved c = rows_more c.requires c.loop-y.y c.loop-y.invariant (omega arith) (c.row_at.ensures ∙ inside_row _ _ _ c.requires.asks.inside _ (omega arith)) c.count_quarters.ensures

pub returns : goal.returns
returns c = rows_all c.requires c.loop-y.y c.loop-y.invariant (omega arith) (omega arith)
