-- `prepare` meets its contract: refused, at the factor 1.0, or with the mappings and the list laid down.
use mathlib.Core.Path.{refl, ap, ◌∙◌}
use Rattle.base_rows.proofs.Given.{number_some}
use Rattle.film_prepare.specs.Prepare.{prepare_leaves}
use Rattle.film_prepare.proofs.Endings.{prepared_err, asks_record, asks_foot, asks_tiles, ends_refused, ends_one, ends_well}
use Rattle.film_prepare.proofs.prepare.Goals as goal

pub returns-in_err-refusal : goal.returns-in_err-refusal
returns-in_err-refusal c =
    ap (λ a. prepare_leaves a c.args.map.now c.args.scratch.now c.args.list.now) (prepared_err _ _ c.from_residual.ensures.1)
    ∙ ends_refused _ _ _ _ _ _ _ _ c.in_err-refusal.ensures (number_some _)

pub foot-footer-requires : goal.foot-footer-requires
foot-footer-requires c = asks_foot _ _ _ _ _ _ _ c.in_ok-refusal.ensures refl

pub made_for-kept-requires : goal.made_for-kept-requires
made_for-kept-requires c = asks_record _ _ _ _ _ _ _ c.in_ok-refusal.ensures refl

pub returns-then-clip_one : goal.returns-then-clip_one
returns-then-clip_one c = ends_one _ _ _ _ _ _ _ _ c.in_ok-refusal.ensures refl c.foot-footer.ensures c.made_for-kept.ensures c.clip_one.ensures c.if-clip_one.true

pub map_tiles-requires : goal.map_tiles-requires
map_tiles-requires c = asks_tiles _ _ _ _ _ _ _ c.in_ok-refusal.ensures refl c.clip_one.ensures c.if-clip_one.false

pub returns : goal.returns
returns c = ends_well _ _ _ _ _ _ _ _ c.in_ok-refusal.ensures refl c.foot-footer.ensures c.made_for-kept.ensures c.clip_one.ensures c.if-clip_one.false c.map_tiles.ensures
