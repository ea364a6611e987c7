-- `pixel_grid::same_axis` meets its contract: what `==` says of each of the two lists is what `same` says.
use mathlib.Core.Path.{◌∙◌}
use Rattle.pixel_grid.proofs.Axes.{same_axis_pointwise}
use Rattle.pixel_grid.proofs.same_axis.Goals as goal

pub returns : goal.returns
returns c = c.eq.ensures ∙ same_axis_pointwise _ _
