-- `c_films::room::tz_room_store` meets its contract: a stored film's footer and the room go to their cells, or store's refusal is returned.
use Rattle.c_room.proofs.Handed.{stored_handed}
use Rattle.c_films.proofs.room.tz_room_store.Goals as goal

pub returns : goal.returns
returns c = rw (← c.settings_from-s.ensures, ← c.room_from-room.ensures) (stored_handed _ _ _ c.store-answer.ensures c.put_stored.ensures)
