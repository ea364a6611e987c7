-- `enhance` meets its contract: refused, at the factor 1.0, or with the picture rendered.
use mathlib.Core.Path.{refl, ap, ◌∙◌}
use Rattle.base_rows.proofs.Given.{number_some, said_err}
use Rattle.film_prepare.specs.Prepare.{enhance_leaves}
use Rattle.film_prepare.proofs.Table.{over_rows}
use Rattle.film_prepare.proofs.Endings.{asks_foot, asks_tiles}
use Rattle.film_prepare.proofs.Renders.{asks_render, over_refused, over_one, over_well}
use Rattle.film_prepare.proofs.enhance.Goals as goal

pub returns-in_err-refusal : goal.returns-in_err-refusal
returns-in_err-refusal c =
    ap (λ a. enhance_leaves a c.args.picture.now c.args.map.now c.args.scratch.now) (said_err _ _ c.from_residual.ensures.1)
    ∙ over_refused _ _ _ _ _ _ (c.in_err-refusal.ensures ∙ over_rows _ _ _ _ _ _) (number_some _)

pub foot-footer-requires : goal.foot-footer-requires
foot-footer-requires c = asks_foot _ _ _ _ _ _ _ c.in_ok-refusal.ensures refl

pub returns-then-unchanged : goal.returns-then-unchanged
returns-then-unchanged c = over_one _ _ _ _ _ _ (c.in_ok-refusal.ensures ∙ over_rows _ _ _ _ _ _) refl c.foot-footer.ensures c.clip_one-unchanged.ensures c.if-unchanged.true

pub map_tiles-requires : goal.map_tiles-requires
map_tiles-requires c = asks_tiles _ _ _ _ _ _ _ c.in_ok-refusal.ensures refl c.clip_one-unchanged.ensures c.if-unchanged.false

pub render-requires : goal.render-requires
render-requires c = asks_render (asks_tiles _ _ _ _ _ _ _ c.in_ok-refusal.ensures refl c.clip_one-unchanged.ensures c.if-unchanged.false).film c.map_tiles.ensures

pub returns : goal.returns
returns c = over_well _ _ _ _ _ _ (c.in_ok-refusal.ensures ∙ over_rows _ _ _ _ _ _) refl c.foot-footer.ensures c.clip_one-unchanged.ensures c.if-unchanged.false c.map_tiles.ensures c.render.ensures.0
