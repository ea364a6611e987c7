-- `c_films::room::tz_room_empty` meets its contract: an empty room goes to its cells.
use mathlib.Core.Path.{ap, ◌∙◌}
use Rattle.c_room.specs.Flat.{cells_of}
use Rattle.c_films.proofs.room.tz_room_empty.Goals as goal

pub returns : goal.returns
returns c = c.put_room.ensures ∙ ap cells_of c.empty-room.ensures
