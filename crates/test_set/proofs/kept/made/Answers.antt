-- `test_set::kept::made` meets its contract: the made record has the numbers of its columns. Assumes nothing.
use Rattle.test_set.specs.Filmset.{eleven_of_lem}
use Rattle.test_set.proofs.kept.made.Goals as goal

pub returns : goal.returns
unfolding eleven_of_lem
returns c = cc
