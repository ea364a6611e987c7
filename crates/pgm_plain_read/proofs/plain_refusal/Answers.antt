-- The rows 22, 23 and 27, and those of the samples behind them.
use mathlib.Core.Path.{refl, sym, ◌∙◌}
use native.Mathlib.Omega.{arith}
use Rattle.base_rows.proofs.Given.{given_err, number_some}
use Rattle.pgm_raster.proofs.Tables.{head_within, count_small}
use Rattle.pgm_plain_read.proofs.Tables.{plain_limit, plain_short, plain_samples}
use Rattle.pgm_plain_read.proofs.plain_refusal.Goals as goal

pub returns-in_err-limit_refusal : goal.returns-in_err-limit_refusal
returns-in_err-limit_refusal c = given_err _ _ c.from_residual.ensures.1 ∙ plain_limit _ _ _ _ _ _ c.in_err-limit_refusal.ensures (number_some _)

pub overflow_mul-count : goal.overflow_mul-count
overflow_mul-count c = let t = head_within _ _ _ (sym c.in_ok-limit_refusal.ensures) in omega (arith, count_small _ _ t.widest t.highest)

pub returns-then-room-count : goal.returns-then-room-count
returns-then-room-count c = plain_short _ _ _ _ _ _ c.in_ok-limit_refusal.ensures refl c.if-room-count.true

pub returns : goal.returns
returns c = plain_samples _ _ _ _ _ _ c.in_ok-limit_refusal.ensures refl c.if-room-count.false c.sample_refusal.ensures
