-- `c_room::room_factors` meets its contract: the factors of all eight places.
use mathlib.Core.Path.{refl}
use Rattle.base_lists.specs.Lists.{tab}
use Rattle.c_room.specs.Flat.{room_factors_of}
use Rattle.c_room.proofs.room_factors.Goals as goal

pub returns : goal.returns
unfolding room_factors_of tab
returns c = rw (c.set_factor.ensures, c.set_factor-2.ensures, c.set_factor-3.ensures, c.set_factor-4.ensures, c.set_factor-5.ensures, c.set_factor-6.ensures, c.set_factor-7.ensures, c.set_factor-8.ensures) refl
