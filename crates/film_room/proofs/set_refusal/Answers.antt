-- `film_room::set_refusal` meets its contract.
use Rattle.std.proofs.Common.{refl, ◌∙◌}
use Rattle.base_rows.proofs.Given.{given_err, number_some}
use Rattle.film_room.proofs.Fifteen.{set_wide, set_high, set_kept, set_edition}
use Rattle.film_room.proofs.set_refusal.Goals.{then-width-r-via-then-width-r, then-width-r-via-else-width-r+then-height-r}
use Rattle.film_room.proofs.set_refusal.Goals as goal

pub returns-then-width-r : goal.returns-then-width-r
returns-then-width-r c =
    elim c.then-width-r.branch [
      | then-width-r-via-then-width-r w ↦ set_wide _ _ _ _ w.if-width-r.true
      | then-width-r-via-else-width-r+then-height-r w ↦ set_high _ _ _ _ w.if-width-r.false w.if-height-r.true
    ]

pub returns-in_err-kept_refusal : goal.returns-in_err-kept_refusal
returns-in_err-kept_refusal c = given_err _ _ c.from_residual.ensures.1 ∙ set_kept _ _ _ _ c.if-width-r.false c.if-height-r.false c.in_err-kept_refusal.ensures (number_some _)

pub returns : goal.returns
returns c = set_edition _ _ _ _ c.if-width-r.false c.if-height-r.false c.in_ok-kept_refusal.ensures refl c.edition_refusal.ensures
