-- `tile_limit::used` meets its contract: both casts are of numbers that an f64 holds exactly. Assumes nothing.
use mathlib.Core.Path.{refl}
use native.Mathlib.Nat.{le_trans}
use lib.Dec.{le→leb, lit≤}
use lib.Ieee.{in_float}
use Rattle.tile_limit.specs.Limit.{used_of}
use Rattle.tile_limit.proofs.used.Goals as goal

pub int_to_float-room : goal.int_to_float-room
unfolding in_float
int_to_float-room c = le→leb _ _ (le_trans c.requires.exact (lit≤ tt))

pub returns : goal.returns
unfolding used_of
returns c = refl
