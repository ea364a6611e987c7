-- `enhance_bytes` meets its contract: refused, at the factor 1.0, or with the picture rendered, as the wide call ends.
use mathlib.Core.Path.{refl, ap, ◌∙◌}
use Rattle.base_rows.proofs.Given.{number_some, said_err}
use Rattle.film_prepare.specs.Prepare.{enhance_leaves}
use Rattle.film_prepare.proofs.Renders.{over_one, over_well}
use Rattle.byte_prepare.proofs.Tables.{bytes_foot, bytes_tiles, rows_enough}
use Rattle.byte_prepare.proofs.Works.{asks_from}
use Rattle.byte_prepare.proofs.Endings.{film_refused, film_well}
use Rattle.byte_prepare.proofs.enhance_bytes.Goals as goal

pub returns-in_err-refusal : goal.returns-in_err-refusal
returns-in_err-refusal c = (
  ap (λ a. enhance_leaves a c.args.picture.now c.args.map.now c.args.scratch.now) (said_err _ _ c.from_residual.ensures.1)
      ∙ film_refused _ _ _ _ _ _ (c.in_err-refusal.ensures.0 ∙ rows_enough _ _ _ _ _ _) (number_some _),
  c.in_err-refusal.ensures.1,
)

pub foot-footer-requires : goal.foot-footer-requires
foot-footer-requires c = bytes_foot _ _ _ _ _ _ _ c.in_ok-refusal.ensures.0 refl

pub returns-then-unchanged : goal.returns-then-unchanged
returns-then-unchanged c = (
  film_well _ _ _ _ _ _ (c.in_ok-refusal.ensures.0 ∙ rows_enough _ _ _ _ _ _) refl
      (λ e. over_one _ _ _ _ _ _ e refl c.foot-footer.ensures c.clip_one-unchanged.ensures c.if-unchanged.true),
  c.in_ok-refusal.ensures.1,
)

pub map_tiles-requires : goal.map_tiles-requires
map_tiles-requires c = bytes_tiles _ _ _ _ _ _ _ c.in_ok-refusal.ensures.0 refl c.clip_one-unchanged.ensures c.if-unchanged.false

pub render_from-requires : goal.render_from-requires
render_from-requires c =
    asks_from (bytes_tiles _ _ _ _ _ _ _ c.in_ok-refusal.ensures.0 refl c.clip_one-unchanged.ensures c.if-unchanged.false).film c.map_tiles.ensures

pub returns : goal.returns
returns c = (
  film_well _ _ _ _ _ _ (c.in_ok-refusal.ensures.0 ∙ rows_enough _ _ _ _ _ _) refl
      (λ e. over_well _ _ _ _ _ _ e refl c.foot-footer.ensures c.clip_one-unchanged.ensures c.if-unchanged.false c.map_tiles.ensures c.render_from.ensures),
  c.in_ok-refusal.ensures.1,
)
