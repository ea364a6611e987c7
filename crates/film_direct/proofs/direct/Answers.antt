-- `direct` meets its contract: refused, with the film copied at the factor 1.0, or with the film painted.
use mathlib.Core.Path.{refl, ap, ◌∙◌}
use Rattle.base_rows.proofs.Given.{number_some, said_err}
use Rattle.film_prepare.specs.Prepare.{paint_leaves}
use Rattle.film_direct.proofs.Endings.{asks_foot, asks_copy, asks_paint, direct_refused, direct_one, direct_well}
use Rattle.film_direct.proofs.direct.Goals as goal

pub returns-in_err-refusal : goal.returns-in_err-refusal
returns-in_err-refusal c =
    ap (λ a. paint_leaves a c.args.target.now c.args.scratch.now) (said_err _ _ c.from_residual.ensures.1)
    ∙ direct_refused _ _ _ _ _ _ c.in_err-refusal.ensures (number_some _)

pub foot-footer-requires : goal.foot-footer-requires
foot-footer-requires c = asks_foot _ _ _ _ _ _ c.in_ok-refusal.ensures refl

pub copy-requires : goal.copy-requires
copy-requires c = asks_copy _ _ _ _ _ _ c.in_ok-refusal.ensures refl

pub returns-then-clip_one : goal.returns-then-clip_one
returns-then-clip_one c = direct_one _ _ _ _ _ _ c.in_ok-refusal.ensures refl c.foot-footer.ensures c.clip_one.ensures c.if-clip_one.true c.copy.ensures

pub paint-requires : goal.paint-requires
paint-requires c = asks_paint _ _ _ _ _ _ c.in_ok-refusal.ensures refl c.clip_one.ensures c.if-clip_one.false

pub returns : goal.returns
returns c = direct_well _ _ _ _ _ _ c.in_ok-refusal.ensures refl c.foot-footer.ensures c.clip_one.ensures c.if-clip_one.false c.paint.ensures.0 c.paint.ensures.1
