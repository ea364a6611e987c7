-- `refusal` gives the first of 1, 2, 39, 7 to 9, 31, 10, 12, 17 and 13 that applies.
use mathlib.Core.Path.{refl}
use Rattle.base_rows.proofs.Given.{refused_front, passed_front}
use Rattle.film_settings.proofs.Ready.{size_numbered}
use Rattle.film_settings.proofs.Parts.{grey_numbered}
use Rattle.film_around.specs.Around.{around_rows}
use Rattle.film_around.proofs.Table.{region_numbered, sides_small}
use Rattle.film_around.proofs.refusal.Goals as goal

pub returns-in_err-size_refusal : goal.returns-in_err-size_refusal
unfolding around_rows
returns-in_err-size_refusal c = refused_front _ _ _ _ c.in_err-size_refusal.ensures c.from_residual.ensures.1

pub returns-in_err-region_refusal : goal.returns-in_err-region_refusal
unfolding around_rows
returns-in_err-region_refusal c =
    passed_front _ _ (size_numbered _ _ _) c.in_ok-size_refusal.ensures
    (refused_front _ _ _ _ c.in_err-region_refusal.ensures c.from_residual-in_err-region_refusal.ensures.1)

pub returns-in_err-grey_refusal : goal.returns-in_err-grey_refusal
unfolding around_rows
returns-in_err-grey_refusal c =
    passed_front _ _ (size_numbered _ _ _) c.in_ok-size_refusal.ensures
    (passed_front _ _ (region_numbered _) c.in_ok-region_refusal.ensures
    (refused_front _ _ _ _ c.in_err-grey_refusal.ensures c.from_residual-in_err-grey_refusal.ensures.1))

pub work_refusal-requires : goal.work_refusal-requires
work_refusal-requires c = sides_small _ _ c.args.picture.now 0 c.args.s 0 0 c.in_ok-size_refusal.ensures refl

pub returns : goal.returns
unfolding around_rows
returns c =
    passed_front _ _ (size_numbered _ _ _) c.in_ok-size_refusal.ensures
    (passed_front _ _ (region_numbered _) c.in_ok-region_refusal.ensures
    (passed_front _ _ (grey_numbered _) c.in_ok-grey_refusal.ensures c.work_refusal.ensures))
