-- Refused before the target is written, or turned. Assumes nothing.
use mathlib.Core.Path.{refl, sym, ap, ◌∙◌}
use Rattle.base_rows.proofs.Given.{said_err, number_some}
use Rattle.pgm_greys.specs.Greys.{greys_leave}
use Rattle.pgm_greys.proofs.Tables.{grey_asks}
use Rattle.pgm_greys.proofs.Parts.{greys_refused, greys_done}
use Rattle.pgm_greys.proofs.read_greys.Goals as goal

pub returns-in_err-grey_refusal : goal.returns-in_err-grey_refusal
returns-in_err-grey_refusal c =
    ap (λ a. greys_leave a c.args.target.now) (said_err _ _ c.from_residual.ensures.1) ∙ greys_refused _ _ _ _ _ _ c.in_err-grey_refusal.ensures (number_some _)

pub turn-requires : goal.turn-requires
turn-requires c = grey_asks _ _ _ _ _ _ (sym c.in_ok-grey_refusal.ensures)

pub returns : goal.returns
returns c = greys_done _ _ _ _ _ _ c.in_ok-grey_refusal.ensures refl c.turn.ensures
