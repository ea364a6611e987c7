-- What the samples meet, then 25.
use mathlib.Core.Path.{sym, ◌∙◌}
use Rattle.base_rows.proofs.Given.{given_err}
use Rattle.pgm_plain.proofs.Samples.{scan_within}
use Rattle.pgm_plain_read.proofs.Tables.{samples_done, samples_refused}
use Rattle.pgm_plain_read.proofs.sample_refusal.Goals as goal

pub returns-in_err-end : goal.returns-in_err-end
returns-in_err-end c = given_err _ _ c.from_residual.ensures.1 ∙ samples_refused _ c.in_err-end.ensures

pub tail_refusal-requires : goal.tail_refusal-requires
tail_refusal-requires c = scan_within _ _ _ _ c.requires (sym c.in_ok-end.ensures)

pub returns : goal.returns
returns c = samples_done _ c.in_ok-end.ensures c.tail_refusal.ensures
