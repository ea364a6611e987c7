-- The sizes of what read finds. Assumes nothing.
use mathlib.Core.Path.{ap, ◌∙◌}
use Rattle.pgm_read.specs.Pgm.{sizes_of, sizes_says}
use Rattle.pgm_read.proofs.Tables.{sizes_err}
use Rattle.pgm_read.proofs.read_sizes.Goals as goal

pub returns-in_err-head : goal.returns-in_err-head
returns-in_err-head c = sizes_err _ _ c.from_residual.ensures.1 ∙ ap sizes_of c.in_err-head.ensures

pub returns : goal.returns
unfolding sizes_says
returns c = ap sizes_of c.in_ok-head.ensures
