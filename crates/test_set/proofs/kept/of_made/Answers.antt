-- `test_set::kept::of_made` meets its contract: the answer beside the made record. Assumes nothing.
use Rattle.test_set.proofs.kept.of_made.Goals as goal

pub returns : goal.returns
returns c = cc
