-- `pixel_grid::no_axis` meets its contract: the entries are all 0.
use mathlib.Core.Path.{refl}
use Rattle.base_lists.specs.Lists.{tab}
use Rattle.pixel_grid.specs.Grid.{no_axis_of}
use Rattle.pixel_grid.proofs.no_axis.Goals as goal

pub returns : goal.returns
unfolding no_axis_of tab
returns c = refl
