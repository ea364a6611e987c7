-- `prepare_bytes` meets its contract: refused, at the factor 1.0, or with the mappings laid down, as the wide call ends.
use mathlib.Core.Path.{refl, ap, ◌∙◌}
use Rattle.base_rows.proofs.Given.{number_some}
use Rattle.film_prepare.specs.Prepare.{prepare_leaves}
use Rattle.film_prepare.proofs.Endings.{prepared_err, ends_one, ends_well}
use Rattle.byte_prepare.proofs.Tables.{bytes_record, bytes_foot, bytes_tiles}
use Rattle.byte_prepare.proofs.Endings.{bytes_refused, bytes_well}
use Rattle.byte_prepare.proofs.prepare_bytes.Goals as goal

pub returns-in_err-refusal : goal.returns-in_err-refusal
returns-in_err-refusal c = (
  ap (λ a. prepare_leaves a c.args.map.now c.args.scratch.now c.args.list.now) (prepared_err _ _ c.from_residual.ensures.1)
      ∙ bytes_refused _ _ _ _ _ _ _ _ c.in_err-refusal.ensures.0 (number_some _),
  c.in_err-refusal.ensures.1,
)

pub made_for-kept-requires : goal.made_for-kept-requires
made_for-kept-requires c = bytes_record _ _ _ _ _ _ _ c.in_ok-refusal.ensures.0 refl

pub foot-footer-requires : goal.foot-footer-requires
foot-footer-requires c = bytes_foot _ _ _ _ _ _ _ c.in_ok-refusal.ensures.0 refl

pub returns-then-clip_one : goal.returns-then-clip_one
returns-then-clip_one c = (
  bytes_well _ _ _ _ _ _ _ _ c.in_ok-refusal.ensures.0 refl
      (λ e. ends_one _ _ _ _ _ _ _ _ e refl c.foot-footer.ensures c.made_for-kept.ensures c.clip_one.ensures c.if-clip_one.true),
  c.in_ok-refusal.ensures.1,
)

pub map_tiles-requires : goal.map_tiles-requires
map_tiles-requires c = bytes_tiles _ _ _ _ _ _ _ c.in_ok-refusal.ensures.0 refl c.clip_one.ensures c.if-clip_one.false

pub returns : goal.returns
returns c = (
  bytes_well _ _ _ _ _ _ _ _ c.in_ok-refusal.ensures.0 refl
      (λ e. ends_well _ _ _ _ _ _ _ _ e refl c.foot-footer.ensures c.made_for-kept.ensures c.clip_one.ensures c.if-clip_one.false c.map_tiles.ensures),
  c.in_ok-refusal.ensures.1,
)
