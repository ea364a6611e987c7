-- `test_set::axes::fields` meets its contract: the columns' digests, then the rows'. Assumes nothing.
use Rattle.test_set.specs.Filmset.{axes_fields}
use Rattle.test_set.proofs.axes.fields.Goals as goal

pub returns : goal.returns
unfolding axes_fields
returns c = cc
