-- `c_films::tz_enhance` meets its contract: enhance's footer goes to its cells, or its refusal is returned.
use Rattle.c_flat.proofs.Handed.{enhanced_done, enhanced_refused}
use Rattle.c_films.proofs.films.tz_enhance.Goals as goal

pub returns-in-Ok : goal.returns-in-Ok
returns-in-Ok c = rw (← c.settings_from-s.ensures) (enhanced_done _ _ c.enhance.ensures c.in-Ok.is c.put_footer.ensures)

pub returns-in-Err : goal.returns-in-Err
returns-in-Err c = rw (← c.settings_from-s.ensures) (enhanced_refused _ _ c.enhance.ensures c.in-Err.is c.number.ensures)
