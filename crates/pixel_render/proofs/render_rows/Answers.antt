use native.Mathlib.Omega.{arith}
use Rattle.base_lists.proofs.Fills.{blocks_none}
use Rattle.pixel_render.proofs.Counts.{sum_none}
use Rattle.pixel_render.proofs.Strips.{strip_room, strip_asks, strips_next, strips_moved, strips_end, window_moved}
use Rattle.pixel_render.proofs.render_rows.Goals as goal

pub loop-j-init : goal.loop-j-init
loop-j-init c = (blocks_none _ _ _, sum_none _, omega arith)

pub render_row-moved-requires : goal.render_row-moved-requires
render_row-moved-requires c = strip_asks c.requires c.loop-j.invariant.0 c.loop-j-test.true

pub overflow_add-moved : goal.overflow_add-moved
overflow_add-moved c =
    let moves = strips_moved c.requires c.loop-j.invariant.0 c.loop-j-test.true c.loop-j.invariant.1 c.loop-j.invariant.2 c.loop-j.auto.table c.render_row-moved.ensures.2 in
    omega (arith, moves.1, strip_room c.requires c.loop-j-test.true)

pub loop-j-preserved : goal.loop-j-preserved
loop-j-preserved c =
    let moves = strips_moved c.requires c.loop-j.invariant.0 c.loop-j-test.true c.loop-j.invariant.1 c.loop-j.invariant.2 c.loop-j.auto.table c.render_row-moved.ensures.2 in
    (strips_next c.requires c.loop-j.invariant.0 c.loop-j-test.true c.render_row-moved.ensures.0, moves.0, moves.1)

pub returns : goal.returns
returns c = (strips_end c.requires c.loop-j.invariant.0 (omega arith) (omega arith), window_moved _ _ _ _ _ c.loop-j.invariant.1 (omega arith) (omega arith))
