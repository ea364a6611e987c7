-- `test_set::kept::eleven_of` meets its contract: the ten numbers in their order, and the factor. Assumes nothing.
use Rattle.test_set.specs.Filmset.{eleven_from}
use Rattle.test_set.proofs.kept.eleven_of.Goals as goal

pub returns : goal.returns
unfolding eleven_from
returns c = cc
