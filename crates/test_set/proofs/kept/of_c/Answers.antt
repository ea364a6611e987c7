-- `test_set::kept::of_c` meets its contract: what the call for C left. Assumes nothing.
use Rattle.test_set.proofs.kept.of_c.Goals as goal

pub returns : goal.returns
returns c = cc
