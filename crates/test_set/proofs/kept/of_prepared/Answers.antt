-- `test_set::kept::of_prepared` meets its contract: the record of an accepted call, or the made one. Assumes nothing.
use Rattle.std.proofs.Common.{refl}
use Rattle.test_set.proofs.kept.of_prepared.Goals as goal

pub returns-in-Ok : goal.returns-in-Ok
returns-in-Ok c = rw (c.in-Ok.is, c.flat-eleven.ensures, c.axes_in-axes.ensures) refl

pub returns-in-Err : goal.returns-in-Err
returns-in-Err c = rw (c.in-Err.is, ← c.number.ensures) c.of_made-k.ensures
