-- `c_engines::tz_direct` meets its contract: direct's footer goes to its cells, or its refusal is returned.
use Rattle.c_engines.proofs.Handed.{painted_done, painted_refused}
use Rattle.c_engines.proofs.tz_direct.Goals as goal

pub returns-in-Ok : goal.returns-in-Ok
returns-in-Ok c = rw (← c.settings_from-s.ensures) (painted_done _ _ c.direct.ensures c.in-Ok.is c.put_footer.ensures)

pub returns-in-Err : goal.returns-in-Err
returns-in-Err c = rw (← c.settings_from-s.ensures) (painted_refused _ _ c.direct.ensures c.in-Err.is c.number.ensures)
