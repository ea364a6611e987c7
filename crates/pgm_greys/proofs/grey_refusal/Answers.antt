-- The rows 22 to 25, and 27 and 26 behind them. Assumes nothing.
use mathlib.Core.Path.{refl, sym, ◌∙◌}
use Rattle.base_rows.proofs.Given.{given_err, number_some}
use Rattle.pgm_raster.proofs.Tables.{head_within, raster_asks}
use Rattle.pgm_greys.proofs.Tables.{grey_limit, grey_raster, grey_target}
use Rattle.pgm_greys.proofs.grey_refusal.Goals as goal

pub returns-in_err-limit_refusal : goal.returns-in_err-limit_refusal
returns-in_err-limit_refusal c = given_err _ _ c.from_residual.ensures.1 ∙ grey_limit _ _ _ _ _ _ c.in_err-limit_refusal.ensures (number_some _)

pub raster_refusal-requires : goal.raster_refusal-requires
raster_refusal-requires c = let t = head_within _ _ _ (sym c.in_ok-limit_refusal.ensures) in (t.widest, t.highest)

pub returns-in_err-raster_refusal : goal.returns-in_err-raster_refusal
returns-in_err-raster_refusal c =
    given_err _ _ c.from_residual-in_err-raster_refusal.ensures.1
    ∙ grey_raster _ _ _ _ _ _ c.in_ok-limit_refusal.ensures refl c.saturating_sub-size.ensures c.in_err-raster_refusal.ensures (number_some _)

pub target_refusal-requires : goal.target_refusal-requires
target_refusal-requires c = raster_asks _ _ _ _ _ c.in_ok-limit_refusal.ensures refl c.saturating_sub-size.ensures c.in_ok-raster_refusal.ensures refl

pub returns : goal.returns
returns c = grey_target _ _ _ _ _ _ c.in_ok-limit_refusal.ensures refl c.saturating_sub-size.ensures c.in_ok-raster_refusal.ensures refl c.target_refusal.ensures
