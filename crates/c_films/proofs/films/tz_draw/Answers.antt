-- `c_films::tz_draw` meets its contract: draw is asked with the record and the window made of their numbers, and its answer is returned.
use Rattle.c_flat.proofs.Handed.{drawn_handed}
use Rattle.c_films.proofs.films.tz_draw.Goals as goal

pub returns : goal.returns
returns c = rw (← c.settings_from-s.ensures, ← c.axis_from-columns.ensures, ← c.axis_from-rows.ensures, ← c.record_from-record.ensures) (drawn_handed _ c.draw-answer.ensures c.code.ensures)
