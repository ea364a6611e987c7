-- `c_around::tz_around` meets its contract: around's footer goes to its cells, or its refusal is returned.
use Rattle.c_around.proofs.Handed.{around_done, around_refused}
use Rattle.c_around.proofs.tz_around.Goals as goal

pub returns-in-Ok : goal.returns-in-Ok
returns-in-Ok c = rw (← c.settings_from-s.ensures) (around_done _ _ c.around.ensures c.in-Ok.is c.put_footer.ensures)

pub returns-in-Err : goal.returns-in-Err
returns-in-Err c = rw (← c.settings_from-s.ensures) (around_refused _ _ c.around.ensures c.in-Err.is c.number.ensures)
