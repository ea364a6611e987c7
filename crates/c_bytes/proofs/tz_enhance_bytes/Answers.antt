-- `c_bytes::tz_enhance_bytes` meets its contract: enhance_bytes's footer goes to its cells, or its refusal is returned.
use Rattle.c_flat.proofs.Handed.{enhanced_done, enhanced_refused}
use Rattle.c_bytes.proofs.tz_enhance_bytes.Goals as goal

pub returns-in-Ok : goal.returns-in-Ok
returns-in-Ok c = (
  rw (← c.settings_from-s.ensures) (enhanced_done _ _ c.enhance_bytes.ensures.0 c.in-Ok.is c.put_footer.ensures),
  c.enhance_bytes.ensures.1,
)

pub returns-in-Err : goal.returns-in-Err
returns-in-Err c = (
  rw (← c.settings_from-s.ensures) (enhanced_refused _ _ c.enhance_bytes.ensures.0 c.in-Err.is c.number.ensures),
  c.enhance_bytes.ensures.1,
)
