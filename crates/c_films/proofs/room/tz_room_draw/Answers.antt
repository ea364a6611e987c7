-- `c_films::room::tz_room_draw` meets its contract: the room's draw is asked with the room of its cells, and its answer is returned.
use Rattle.c_flat.proofs.Handed.{drawn_handed}
use Rattle.c_films.proofs.room.tz_room_draw.Goals as goal

pub returns : goal.returns
returns c = rw (← c.settings_from-s.ensures, ← c.room_from-room.ensures) (drawn_handed _ c.draw-answer.ensures c.code.ensures)
