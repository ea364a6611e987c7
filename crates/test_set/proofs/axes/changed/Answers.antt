-- `test_set::axes::changed` meets its contract: an entry of the columns' axis, of the rows', or none. Assumes nothing.
use Rattle.test_set.specs.Filmset.{changed_axes}
use Rattle.test_set.proofs.axes.changed.Goals as goal

pub returns : goal.returns
unfolding changed_axes
returns c = cc
