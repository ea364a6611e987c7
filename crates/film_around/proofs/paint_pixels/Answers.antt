use mathlib.Core.Path.{refl, ◌∙◌}
use native.Mathlib.Omega.{arith}
use Rattle.base_lists.proofs.Fills.{filled_none, filled_step}
use Rattle.base_lists.proofs.Windows.{filled_all}
use Rattle.film_around.specs.Around.{around_row}
use Rattle.film_around.proofs.Parts.{not_yet, kept_next}
use Rattle.film_around.proofs.Rows.{held_first, held_next, held_behind}
use Rattle.film_around.proofs.paint_pixels.Goals as goal

pub loop-x-init : goal.loop-x-init
loop-x-init c = (filled_none _ _, held_first c.requires.0, refl, not_yet)

pub loop-x-preserved : goal.loop-x-preserved
loop-x-preserved c = (filled_step _ _ c.loop-x.invariant.0 (omega (arith, c.requires.0.row)) c.pixel-shown.ensures.1.grey, held_next c.loop-x.invariant.1 c.pixel-shown.ensures.0, c.keep_at-kept.ensures.1 ∙ c.loop-x.invariant.2, kept_next c.keep_at-kept.ensures.0)

pub returns : goal.returns
unfolding around_row
returns c = (held_behind c.requires.0.first.bins c.loop-x.invariant.1, filled_all _ _ c.requires.0.row c.loop-x.invariant.0 (omega arith) (omega arith))
