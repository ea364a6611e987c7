-- `test_set::kept::axes_in` meets its contract: the record's own axes. Assumes nothing.
use Rattle.std.proofs.Common.{refl}
use Rattle.test_set.specs.Filmset.{axes_in_of}
use Rattle.test_set.proofs.kept.axes_in.Goals as goal

pub returns : goal.returns
unfolding axes_in_of
returns c = refl
