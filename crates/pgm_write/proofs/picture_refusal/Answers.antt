-- The rows of a picture. Assumes nothing.
use mathlib.Core.Path.{refl, sym, ap, ◌∙◌}
use mathlib.Core.Bool.{not}
use native.Mathlib.Omega.{arith}
use Rattle.base_rows.proofs.Given.{given_err, number_some}
use Rattle.pgm_raster.proofs.Tables.{head_within, count_small}
use Rattle.pgm_write.proofs.Tables.{picture_limit, picture_size, picture_above, picture_fits}
use Rattle.pgm_write.proofs.picture_refusal.Goals as goal

pub returns-in_err-limit_refusal : goal.returns-in_err-limit_refusal
returns-in_err-limit_refusal c = given_err _ _ c.from_residual.ensures.1 ∙ picture_limit _ _ _ _ c.in_err-limit_refusal.ensures (number_some _)

pub overflow_mul-width : goal.overflow_mul-width
overflow_mul-width c = let t = head_within _ _ _ (sym c.in_ok-limit_refusal.ensures) in omega (arith, count_small c.args.width c.args.height t.widest t.highest)

pub returns-then-picture-width : goal.returns-then-picture-width
returns-then-picture-width c = picture_size _ _ _ _ c.in_ok-limit_refusal.ensures refl c.if-picture-width.true

pub returns-then-not-greys_none_above : goal.returns-then-not-greys_none_above
returns-then-not-greys_none_above c =
    picture_above _ _ _ _ c.in_ok-limit_refusal.ensures refl c.if-picture-width.false c.greys_none_above.ensures (ap not c.if-not-greys_none_above.true)

pub returns : goal.returns
returns c = picture_fits _ _ _ _ c.in_ok-limit_refusal.ensures refl c.if-picture-width.false c.greys_none_above.ensures (ap not c.if-not-greys_none_above.false)
