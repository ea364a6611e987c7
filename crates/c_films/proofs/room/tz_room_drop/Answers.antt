-- `c_films::room::tz_room_drop` meets its contract: the room that drop leaves goes to its cells, or its refusal is returned.
use Rattle.c_room.proofs.Handed.{dropped_handed}
use Rattle.c_films.proofs.room.tz_room_drop.Goals as goal

pub returns : goal.returns
returns c = rw (← c.room_from-room.ensures) (dropped_handed _ _ c.drop_film-answer.ensures c.put_dropped.ensures)
