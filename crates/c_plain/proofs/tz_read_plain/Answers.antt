-- `c_plain::tz_read_plain` meets its contract: the sizes go to their cells and the target is what read_plain leaves, or the refusal is returned.
use Rattle.c_plain.proofs.Handed.{read_found, read_refused}
use Rattle.c_plain.proofs.tz_read_plain.Goals as goal

pub returns-in-Ok : goal.returns-in-Ok
returns-in-Ok c = read_found _ _ c.read_plain.ensures c.in-Ok.is

pub returns-in-Err : goal.returns-in-Err
returns-in-Err c = read_refused _ _ c.read_plain.ensures c.in-Err.is c.number.ensures
