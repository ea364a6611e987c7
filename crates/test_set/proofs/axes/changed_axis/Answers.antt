-- `test_set::axes::changed_axis` meets its contract: an entry of the edges, of the centres, or none. Assumes nothing.
use Rattle.test_set.specs.Filmset.{changed_axis_of}
use Rattle.test_set.proofs.axes.changed_axis.Goals as goal

pub returns : goal.returns
unfolding changed_axis_of
returns c = cc
