-- By the header: refused, or its numbers judged.
use mathlib.Core.Path.{refl, ◌∙◌}
use Rattle.base_rows.proofs.Given.{number_some}
use Rattle.pgm_read.specs.Pgm.{sizes_says}
use Rattle.pgm_read.proofs.Tables.{sizes_err}
use Rattle.pgm_plain_read.proofs.Tables.{sizes_limit, sizes_found, sizes_refused}
use Rattle.pgm_plain_read.proofs.plain_sizes.Goals as goal

pub returns-in_err-head : goal.returns-in_err-head
returns-in_err-head c = sizes_err _ _ c.from_residual.ensures.1 ∙ sizes_refused c.in_err-head.ensures

pub returns-in_err-limit_refusal : goal.returns-in_err-limit_refusal
returns-in_err-limit_refusal c =
    sizes_err _ _ c.from_residual-in_err-limit_refusal.ensures.1 ∙ sizes_limit c.in_ok-head.ensures c.in_err-limit_refusal.ensures (number_some _)

pub returns : goal.returns
unfolding sizes_says
returns c = sizes_found c.in_ok-head.ensures c.in_ok-limit_refusal.ensures refl
