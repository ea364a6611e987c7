-- `c_bytes::tz_draw_bytes` meets its contract: draw_bytes is asked with the record and the window made of their numbers, and its answer is returned.
use Rattle.c_flat.proofs.Handed.{drawn_handed}
use Rattle.c_bytes.proofs.tz_draw_bytes.Goals as goal

pub returns : goal.returns
returns c = (
  rw (← c.settings_from-s.ensures, ← c.axis_from-columns.ensures, ← c.axis_from-rows.ensures, ← c.record_from-record.ensures) (drawn_handed _ c.draw_bytes-answer.ensures.0 c.code.ensures),
  c.draw_bytes-answer.ensures.1,
  c.draw_bytes-answer.ensures.2,
)
