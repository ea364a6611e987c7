-- `c_room::room_from` meets its contract: the sets of all eight places.
use mathlib.Core.Path.{refl}
use Rattle.base_lists.specs.Lists.{tab}
use Rattle.c_room.specs.Flat.{room_from_of}
use Rattle.c_room.proofs.room_from.Goals as goal

pub returns : goal.returns
unfolding room_from_of tab
returns c = rw (c.set_from.ensures, c.set_from-2.ensures, c.set_from-3.ensures, c.set_from-4.ensures, c.set_from-5.ensures, c.set_from-6.ensures, c.set_from-7.ensures, c.set_from-8.ensures) refl
