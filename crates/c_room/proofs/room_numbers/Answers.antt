use mathlib.Core.Path.{refl, ap}
use lib.ListN.{length}
use borrow.Author.Rules.{rules}
use Rattle.base_lists.proofs.Fills.{blocks_none}
use Rattle.c_room.proofs.Cells.{numbers_fit, numbers_next, length_next, numbers_end}
use Rattle.c_room.proofs.room_numbers.Goals as goal

pub loop-i-init : goal.loop-i-init
loop-i-init c = (refl, refl, blocks_none 10 _ _)

pub copy-requires : goal.copy-requires
copy-requires c = numbers_fit c.at.result c.loop-i.numbers c.loop-i.i c.set_numbers-ten.ensures (search rules) c.loop-i.invariant.0

pub loop-i-preserved : goal.loop-i-preserved
loop-i-preserved c = (length_next c.loop-i.numbers c.set_numbers-ten.result c.loop-i.i c.loop-i.invariant.0 (search rules) (ap length c.set_numbers-ten.ensures) c.copy.ensures, c.loop-i.invariant.1, numbers_next c.args.room.now _ c.at.result {i = c.loop-i.i} c.loop-i.invariant.2 (search rules) c.loop-i.invariant.0 c.at.ensures c.set_numbers-ten.ensures c.copy.ensures)

pub returns : goal.returns
returns c = numbers_end c.args.room.now _ c.loop-i.invariant.2 c.loop-i.invariant.1 (search rules) (search rules)
