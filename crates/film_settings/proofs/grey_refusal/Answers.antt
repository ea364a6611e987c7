-- `grey_refusal` gives the first of 7 to 9, 31 and 10 that applies.
use Rattle.base_rows.proofs.Given.{refused_front, passed_front}
use Rattle.film_settings.specs.Settings.{grey_rows}
use Rattle.film_settings.proofs.Ready.{range_numbered}
use Rattle.film_settings.proofs.grey_refusal.Goals as goal

pub returns-in_err-range_refusal : goal.returns-in_err-range_refusal
unfolding grey_rows
returns-in_err-range_refusal c = refused_front _ _ _ _ c.in_err-range_refusal.ensures c.from_residual.ensures.1

pub returns : goal.returns
unfolding grey_rows
returns c = passed_front _ _ (range_numbered _) c.in_ok-range_refusal.ensures c.clip_refusal.ensures
