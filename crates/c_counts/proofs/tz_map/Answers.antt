-- `c_counts::tz_map` meets its contract: map_counts's record and footer go to their cells, or its refusal is returned.
use Rattle.c_flat.proofs.Handed.{prepared_handed}
use Rattle.c_counts.proofs.tz_map.Goals as goal

pub returns : goal.returns
returns c = rw (← c.settings_from-s.ensures) (prepared_handed _ _ c.map_counts-prepared.ensures c.put_prepared.ensures)
