-- `test_set::row::longer` meets its contract: the number in its column gains a digit. Assumes nothing.
use Rattle.test_set.specs.Filmset.{longer_line}
use Rattle.test_set.proofs.row.longer.Goals as goal

pub returns : goal.returns
unfolding longer_line
returns c = cc
