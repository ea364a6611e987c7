use native.Mathlib.Omega.{arith}
use Rattle.base_lists.proofs.Fills.{filled_none}
use Rattle.pixel_render.proofs.Counts.{moving_first, moving_end}
use Rattle.pixel_render.proofs.Summing.{part_asks, part_next, part_moves, parts_end}
use Rattle.pixel_render.proofs.sum_row.Goals as goal

pub loop-at-init : goal.loop-at-init
loop-at-init c = (omega arith, filled_none _ _, moving_first _ _ _ _ _)

pub weigh_sums-moved-requires : goal.weigh_sums-moved-requires
weigh_sums-moved-requires c = part_asks c.requires c.loop-at.invariant.1 c.section_from-part.ensures

pub overflow_add-moved : goal.overflow_add-moved
overflow_add-moved c =
    let moving = part_moves c.requires c.loop-at.invariant.1 c.section_from-part.ensures c.loop-at.invariant.2 c.loop-at.auto.table c.weigh_sums-moved.ensures.2 in
    omega (arith, moving.few, c.section_from-part.ensures.end)

pub loop-at-preserved : goal.loop-at-preserved
loop-at-preserved c = (
  c.section_from-part.ensures.end,
  part_next c.requires c.loop-at.invariant.1 c.section_from-part.ensures c.weigh_sums-moved.ensures.0,
  part_moves c.requires c.loop-at.invariant.1 c.section_from-part.ensures c.loop-at.invariant.2 c.loop-at.auto.table c.weigh_sums-moved.ensures.2,
)

pub returns : goal.returns
returns c = (parts_end _ _ _ _ _ _ {i = c.loop-at.at} c.loop-at.invariant.1 (omega arith) (omega arith), omega arith, moving_end _ _ _ _ _ c.loop-at.invariant.2 (omega arith))
