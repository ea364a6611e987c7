-- `c_room::room_numbers` meets its contract: the numbers of all eight places, ten a set.
use mathlib.Core.Path.{◌≡◌}
use lib.ListN.{length}
use Rattle.base_lists.specs.Lists.{blocks}
use Rattle.c_room.proofs.Cells.{numbers_at}
use Rattle.c_room.proofs.room_numbers.Given as goal

abbrev pub invariant-loop-i : goal.invariant-loop-i
invariant-loop-i l = (length l.numbers ≡ 80) × (length l.initial.numbers ≡ 80) × (l.numbers ≡ blocks 10 (numbers_at l.room) l.initial.numbers l.i)
