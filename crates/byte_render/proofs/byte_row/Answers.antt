-- `byte_render::byte_row` meets its contract: the row goes into the line, is rendered there, and comes back.
use native.Mathlib.Nat.{le_of_eq}
use mathlib.Core.Path.{sym}
use Rattle.byte_render.proofs.Lines.{line_size, line_asks, back_size, line_bytes, line_back}
use Rattle.byte_render.proofs.byte_row.Goals as goal

pub slice_bounds-render_row-end-2 : goal.slice_bounds-render_row-end-2
slice_bounds-render_row-end-2 c = line_size c.requires _ c.widen.ensures

pub render_row-requires : goal.render_row-requires
render_row-requires c = line_asks c.requires _ c.widen.ensures

pub slice_bounds-narrow-end-2 : goal.slice_bounds-narrow-end-2
slice_bounds-narrow-end-2 c = back_size c.requires _ c.widen.ensures c.render_row.ensures.0

pub narrow-requires : goal.narrow-requires
narrow-requires c = (le_of_eq (sym (back_size c.requires _ c.widen.ensures c.render_row.ensures.0)), line_bytes c.requires _ c.widen.ensures c.render_row.ensures.0)

pub returns : goal.returns
returns c = line_back c.requires _ c.widen.ensures c.render_row.ensures.0 c.narrow.ensures
