-- `refusal` gives the first of 1 to 9, 31, 10, 12, 17 and 13 that applies.
use mathlib.Core.Path.{refl}
use Rattle.base_rows.proofs.Given.{refused_front, passed_front}
use Rattle.film_settings.proofs.Ready.{setting_numbered}
use Rattle.film_direct.specs.Direct.{direct_rows}
use Rattle.film_direct.proofs.Table.{sides_small}
use Rattle.film_direct.proofs.refusal.Goals as goal

pub returns-in_err-setting_refusal : goal.returns-in_err-setting_refusal
unfolding direct_rows
returns-in_err-setting_refusal c = refused_front _ _ _ _ c.in_err-setting_refusal.ensures c.from_residual.ensures.1

pub work_refusal-requires : goal.work_refusal-requires
work_refusal-requires c = sides_small _ _ c.args.picture.now _ 0 0 c.in_ok-setting_refusal.ensures refl

pub returns : goal.returns
unfolding direct_rows
returns c = passed_front _ _ (setting_numbered _ _ _ _) c.in_ok-setting_refusal.ensures c.work_refusal.ensures
