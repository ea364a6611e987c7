-- `test_set::axes::axis_fields` meets its contract: the digest of the edges, then that of the centres. Assumes nothing.
use Rattle.test_set.specs.Filmset.{axis_fields_of}
use Rattle.test_set.proofs.axes.axis_fields.Goals as goal

pub returns : goal.returns
unfolding axis_fields_of
returns c = cc
