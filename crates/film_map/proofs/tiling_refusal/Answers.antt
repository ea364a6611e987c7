-- `tiling_refusal` gives the first of 1, 3 to 9, 31 and 10 that applies.
use Rattle.base_rows.proofs.Given.{refused_front, passed_front}
use Rattle.film_settings.proofs.Ready.{side_numbered, grid_numbered}
use Rattle.film_map.specs.Counts.{tiling_rows}
use Rattle.film_map.proofs.tiling_refusal.Goals as goal

pub returns-in_err-side_refusal : goal.returns-in_err-side_refusal
unfolding tiling_rows
returns-in_err-side_refusal c = refused_front _ _ _ _ c.in_err-side_refusal.ensures c.from_residual.ensures.1

pub returns-in_err-grid_refusal : goal.returns-in_err-grid_refusal
unfolding tiling_rows
returns-in_err-grid_refusal c =
    passed_front _ _ (side_numbered _ _) c.in_ok-side_refusal.ensures
    (refused_front _ _ _ _ c.in_err-grid_refusal.ensures c.from_residual-in_err-grid_refusal.ensures.1)

pub returns : goal.returns
unfolding tiling_rows
returns c =
    passed_front _ _ (side_numbered _ _) c.in_ok-side_refusal.ensures
    (passed_front _ _ (grid_numbered _ _ _) c.in_ok-grid_refusal.ensures c.grey_refusal.ensures)
