use mathlib.Core.Path.{◌∙◌}
use Rattle.base_lists.proofs.Sames.{same_pointwise}
use Rattle.base_lists.proofs.same.Goals as goal

pub returns : goal.returns
returns c = c.eq.ensures ∙ same_pointwise _ _
