-- `size_refusal` gives the first of 1 and 2 that applies.
use mathlib.Core.Path.{sym}
use Rattle.base_rows.proofs.Given.{refused_front, passed_front}
use Rattle.film_settings.specs.Settings.{size_rows}
use Rattle.film_settings.proofs.Ready.{side_numbered, sides_most}
use Rattle.film_settings.proofs.size_refusal.Goals as goal

pub returns-in_err-side_refusal : goal.returns-in_err-side_refusal
unfolding size_rows
returns-in_err-side_refusal c = refused_front _ _ _ _ (c.in_err-side_refusal.ensures) c.from_residual.ensures.1

pub length_refusal-requires : goal.length_refusal-requires
length_refusal-requires c = sides_most _ _ (sym c.in_ok-side_refusal.ensures)

pub returns : goal.returns
unfolding size_rows
returns c = passed_front _ _ (side_numbered _ _) c.in_ok-side_refusal.ensures c.length_refusal.ensures
