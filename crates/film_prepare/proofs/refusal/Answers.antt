-- `refusal` gives the first of 1 to 13, 31 and 32 that applies.
use mathlib.Core.Path.{refl}
use Rattle.base_rows.proofs.Given.{refused_front, passed_front}
use Rattle.film_settings.proofs.Ready.{shared_numbered}
use Rattle.film_prepare.specs.Prepare.{prepare_rows}
use Rattle.film_prepare.proofs.Table.{grid_most}
use Rattle.film_prepare.proofs.refusal.Goals as goal

pub returns-in_err-shared : goal.returns-in_err-shared
unfolding prepare_rows
returns-in_err-shared c = refused_front _ _ _ _ c.in_err-shared.ensures c.from_residual.ensures.1

pub work_refusal-requires : goal.work_refusal-requires
work_refusal-requires c = grid_most _ _ _ _ _ c.in_ok-shared.ensures refl

pub returns : goal.returns
unfolding prepare_rows
returns c = passed_front _ _ (shared_numbered _ _ _ _ _) c.in_ok-shared.ensures c.work_refusal.ensures
