use mathlib.Core.Path.{◌∙◌}
use native.Mathlib.Omega.{arith}
use Rattle.tile_slide.proofs.Turns.{rows_first, rows_next, rows_end, row_asks}
use Rattle.tile_count.proofs.Greys.{inside_row}
use Rattle.tile_slide.proofs.take_rect.Goals as goal

pub loop-y-init : goal.loop-y-init
loop-y-init c = rows_first _ _ _ _ _ c.requires.asks.room

pub take_row-requires : goal.take_row-requires
take_row-requires c = row_asks c.requires c.loop-y.y c.loop-y.invariant (omega arith) (c.row_at.ensures ∙ inside_row _ _ _ c.requires.inside _ (omega arith))

pub loop-y-preserved : goal.loop-y-preserved
loop-y-preserved c = rows_next _ _ _ _ _ c.loop-y.y c.loop-y.invariant (c.row_at.ensures ∙ inside_row _ _ _ c.requires.inside _ (omega arith)) c.take_row.ensures

pub returns : goal.returns
returns c = rows_end _ _ _ _ _ _ _ c.loop-y.y c.loop-y.invariant (omega arith) (omega arith)
