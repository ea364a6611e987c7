-- `c_films::tz_prepare` meets its contract: prepare's record and footer go to their cells, or its refusal is returned.
use Rattle.c_flat.proofs.Handed.{prepared_handed}
use Rattle.c_films.proofs.films.tz_prepare.Goals as goal

pub returns : goal.returns
returns c = rw (← c.settings_from-s.ensures) (prepared_handed _ _ c.prepare-prepared.ensures c.put_prepared.ensures)
