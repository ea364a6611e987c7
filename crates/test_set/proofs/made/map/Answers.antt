-- `test_set::made::map` meets its contract: the entries go up by 7. Assumes nothing.
use Rattle.test_set.proofs.made.map.Goals as goal

pub returns : goal.returns
returns c = cc
