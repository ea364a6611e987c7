use mathlib.Core.Path.{refl}
use native.Mathlib.Omega.{arith}
use Rattle.base_lists.proofs.Fills.{filled_none}
use Rattle.pixel_sums.proofs.Steps.{before_first, pixel_asks, before_few, before_stands, before_next, grey_small, grey_next, pixel_fits, blended_end, moved_end}
use Rattle.pixel_sums.proofs.weigh_run.Goals as goal

pub loop-i-init : goal.loop-i-init
loop-i-init c = record { rendered = filled_none _ _; before = before_first _ _ _ _ _ _ _ refl refl }

pub next-at-requires : goal.next-at-requires
next-at-requires c = (pixel_asks c.requires (omega arith) c.loop-i.invariant.rendered c.loop-i.invariant.before, before_few c.requires (omega arith) c.loop-i.invariant.rendered c.loop-i.invariant.before, before_stands c.requires (omega arith) c.loop-i.invariant.rendered c.loop-i.invariant.before)

pub quotient-requires : goal.quotient-requires
quotient-requires c = (c.requires.column, c.requires.row, c.spans_factor-by.ensures.1, pixel_fits (pixel_asks c.requires (omega arith) c.loop-i.invariant.rendered c.loop-i.invariant.before) c.next-at.ensures.0.sum)

pub overflow_cast-pixel : goal.overflow_cast-pixel
overflow_cast-pixel c = omega (arith, grey_small c.requires (omega arith) c.loop-i.invariant.rendered c.loop-i.invariant.before c.next-at.ensures.0 c.next-at.ensures.1 c.quotient.ensures)

pub loop-i-preserved : goal.loop-i-preserved
loop-i-preserved c = record {
  rendered = grey_next c.requires (omega arith) c.loop-i.invariant.rendered c.loop-i.invariant.before c.next-at.ensures.0 c.next-at.ensures.1 c.quotient.ensures;
  before = before_next c.requires (omega arith) c.loop-i.invariant.rendered c.loop-i.invariant.before c.next-at.ensures.0 c.next-at.ensures.1;
}

pub returns : goal.returns
returns c = (blended_end _ _ _ _ _ _ _ {i = c.loop-i.i} (omega arith) (omega arith) c.loop-i.invariant.rendered, moved_end _ _ _ _ _ _ _ {i = c.loop-i.i} (omega arith) (omega arith) c.loop-i.invariant.before)
