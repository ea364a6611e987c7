-- `test_set::kept::of_enhanced` meets its contract: the answer beside the made record. Assumes nothing.
use Rattle.test_set.proofs.kept.of_enhanced.Goals as goal

pub returns-in-Ok : goal.returns-in-Ok
returns-in-Ok c = rw c.in-Ok.is c.of_made-k.ensures

pub returns-in-Err : goal.returns-in-Err
returns-in-Err c = rw (c.in-Err.is, ← c.number.ensures) c.of_made-k-in-Err.ensures
