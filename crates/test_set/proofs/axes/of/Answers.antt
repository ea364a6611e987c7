-- `test_set::axes::of` meets its contract: an axis for the width, one for the height. Assumes nothing.
use Rattle.test_set.specs.Filmset.{made_axes}
use Rattle.test_set.proofs.axes.of.Goals as goal

pub returns : goal.returns
unfolding made_axes
returns c = cc
