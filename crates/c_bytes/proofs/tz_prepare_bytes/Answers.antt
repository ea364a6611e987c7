-- `c_bytes::tz_prepare_bytes` meets its contract: prepare_bytes's record and footer go to their cells, or its refusal is returned.
use Rattle.c_flat.proofs.Handed.{prepared_handed}
use Rattle.c_bytes.proofs.tz_prepare_bytes.Goals as goal

pub returns : goal.returns
returns c = (
  rw (← c.settings_from-s.ensures) (prepared_handed _ _ c.prepare_bytes-prepared.ensures.0 c.put_prepared.ensures),
  c.prepare_bytes-prepared.ensures.1,
)
