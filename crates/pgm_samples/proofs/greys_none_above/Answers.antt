-- `pgm_samples::greys_none_above` meets its contract: none is above maxval where all lie in 0 to maxval.
use mathlib.Core.Path.{sym, ◌∙◌}
use Rattle.pgm_samples.proofs.Bounds.{none_within}
use Rattle.pgm_samples.proofs.greys_none_above.Goals as goal

pub returns : goal.returns
returns c = c.all_within.ensures ∙ sym (none_within _ _)
