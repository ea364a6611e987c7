-- `setting_refusal` gives the first of 1 to 9, 31 and 10 that applies.
use Rattle.base_rows.proofs.Given.{refused_front, passed_front}
use Rattle.film_settings.specs.Settings.{setting_rows}
use Rattle.film_settings.proofs.Ready.{size_numbered, grid_numbered}
use Rattle.film_settings.proofs.setting_refusal.Goals as goal

pub returns-in_err-size_refusal : goal.returns-in_err-size_refusal
unfolding setting_rows
returns-in_err-size_refusal c = refused_front _ _ _ _ c.in_err-size_refusal.ensures c.from_residual.ensures.1

pub returns-in_err-grid_refusal : goal.returns-in_err-grid_refusal
unfolding setting_rows
returns-in_err-grid_refusal c =
    passed_front _ _ (size_numbered _ _ _) c.in_ok-size_refusal.ensures (refused_front _ _ _ _ c.in_err-grid_refusal.ensures c.from_residual-in_err-grid_refusal.ensures.1)

pub returns : goal.returns
unfolding setting_rows
returns c =
    passed_front _ _ (size_numbered _ _ _) c.in_ok-size_refusal.ensures
    (passed_front _ _ (grid_numbered _ _ _) c.in_ok-grid_refusal.ensures c.grey_refusal.ensures)
