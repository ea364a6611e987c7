-- `draw` answers and leaves what its table and the drawn pixels say.
use mathlib.Core.Path.{refl, sym}
use Rattle.base_rows.proofs.Given.{number_some, said_err}
use Rattle.film_draw.proofs.Tables.{draw_ready}
use Rattle.film_draw.proofs.Works.{draw_ends_refused, draw_ends_well}
use Rattle.film_draw.proofs.draw.Goals as goal

pub returns-in_err-refusal : goal.returns-in_err-refusal
returns-in_err-refusal c = rw (said_err _ _ c.from_residual.ensures.1) (draw_ends_refused _ _ _ _ _ _ _ _ _ c.in_err-refusal.ensures (number_some _))

pub work-requires : goal.work-requires
work-requires c = (draw_ready _ _ _ _ _ _ _ _ _ (sym c.in_ok-refusal.ensures)).shown

pub returns : goal.returns
returns c = draw_ends_well _ _ _ _ _ _ _ _ _ c.in_ok-refusal.ensures refl c.work.ensures
