-- `record_refusal` gives 15 where the record is another film's, of another size, of other settings or of the other edition, or has other edges or centres.
use Rattle.base_rows.proofs.Given.{refused_front, passed_front}
use Rattle.film_record.specs.Held.{record_rows}
use Rattle.film_record.proofs.Tables.{film_numbered, kept_numbered, edition_numbered}
use Rattle.film_record.proofs.record_refusal.Goals as goal

pub returns-in_err-film_refusal : goal.returns-in_err-film_refusal
unfolding record_rows
returns-in_err-film_refusal c = refused_front _ _ _ _ c.in_err-film_refusal.ensures c.from_residual.ensures.1

pub returns-in_err-kept_refusal : goal.returns-in_err-kept_refusal
unfolding record_rows
returns-in_err-kept_refusal c =
    passed_front _ _ (film_numbered _ _ _ _) c.in_ok-film_refusal.ensures
    (refused_front _ _ _ _ c.in_err-kept_refusal.ensures c.from_residual-in_err-kept_refusal.ensures.1)

pub returns-in_err-edition_refusal : goal.returns-in_err-edition_refusal
unfolding record_rows
returns-in_err-edition_refusal c =
    passed_front _ _ (film_numbered _ _ _ _) c.in_ok-film_refusal.ensures
    (passed_front _ _ (kept_numbered _ _) c.in_ok-kept_refusal.ensures
    (refused_front _ _ _ _ c.in_err-edition_refusal.ensures c.from_residual-in_err-edition_refusal.ensures.1))

pub returns : goal.returns
unfolding record_rows
returns c =
    passed_front _ _ (film_numbered _ _ _ _) c.in_ok-film_refusal.ensures
    (passed_front _ _ (kept_numbered _ _) c.in_ok-kept_refusal.ensures
    (passed_front _ _ (edition_numbered _ _) c.in_ok-edition_refusal.ensures c.axis_refusal.ensures))
