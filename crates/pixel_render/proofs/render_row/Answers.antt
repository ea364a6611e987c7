-- `pixel_render::render_row` meets its contract: the row from its bins is the row, and the room keeps its length.
use mathlib.Core.Path.{ap, ◌∙◌}
use native.Mathlib.Omega.{arith}
use Rattle.pixel_render.proofs.Summing.{row_bins, row_summed}
use Rattle.pixel_render.specs.Render.{moved_row}
use Rattle.pixel_render.proofs.render_row.Goals as goal

pub sum_row-requires : goal.sum_row-requires
sum_row-requires c = rw c.locate-row.ensures (row_bins c.requires.2 c.bins_row.ensures)

pub returns : goal.returns
returns c = (row_summed c.requires.2 c.bins_row.ensures c.locate-row.ensures c.sum_row.ensures.0, omega (arith, c.sum_row.ensures.1), c.sum_row.ensures.2 ∙ ap (moved_row _ _ _ _) c.bins_row.ensures)
