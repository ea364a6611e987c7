-- `test_set::kept::flat` meets its contract: the eleven numbers of a map record. Assumes nothing.
use Rattle.test_set.specs.Filmset.{flat_of}
use Rattle.test_set.proofs.kept.flat.Goals as goal

pub returns : goal.returns
unfolding flat_of
returns c = cc
