-- The header, and the rows 22 to 25 behind it. Assumes nothing.
use mathlib.Core.Path.{refl, sym, ◌∙◌}
use Rattle.base_rows.proofs.Given.{number_some}
use Rattle.pgm_header.proofs.Told.{head_err}
use Rattle.pgm_header.proofs.Laws.{found_within}
use Rattle.pgm_raster.proofs.Tables.{head_within}
use Rattle.pgm_read.proofs.Tables.{judged_limit, judged_raster, judged_found_lem, read_judged, read_refused}
use Rattle.pgm_read.proofs.read.Goals as goal

pub returns-in_err-head : goal.returns-in_err-head
returns-in_err-head c = head_err _ _ c.from_residual.ensures.1 ∙ read_refused _ (sym c.in_err-head.ensures)

pub returns-in_err-limit_refusal : goal.returns-in_err-limit_refusal
returns-in_err-limit_refusal c =
    read_judged _ (sym c.in_ok-head.ensures)
    (head_err _ _ c.from_residual-in_err-limit_refusal.ensures.1 ∙ judged_limit _ _ _ _ _ c.in_err-limit_refusal.ensures (number_some _))

pub overflow_sub-size : goal.overflow_sub-size
overflow_sub-size c = found_within _ (sym c.in_ok-head.ensures)

pub raster_refusal-requires : goal.raster_refusal-requires
raster_refusal-requires c = let t = head_within _ _ _ (sym c.in_ok-limit_refusal.ensures) in (t.widest, t.highest)

pub returns-in_err-raster_refusal : goal.returns-in_err-raster_refusal
returns-in_err-raster_refusal c =
    read_judged _ (sym c.in_ok-head.ensures)
    (head_err _ _ c.from_residual-in_err-raster_refusal.ensures.1
    ∙ judged_raster _ _ _ _ _ c.in_ok-limit_refusal.ensures refl c.in_err-raster_refusal.ensures (number_some _))

pub returns : goal.returns
returns c = read_judged _ (sym c.in_ok-head.ensures) (judged_found_lem _ _ _ _ _ c.in_ok-limit_refusal.ensures refl c.in_ok-raster_refusal.ensures refl)
