-- `tile_count::count_line` meets its contract: the turns, and then what is left over.
use Prim.Native.Nat.{◌-◌, ◌*◌, ◌/◌}
use lib.ListN.{length, drop, length-take}
use native.Mathlib.Omega.{arith}
use Rattle.tile_count.proofs.Ways.{part_asks, part_next, part_whole}
use Rattle.tile_count.proofs.count_line.Goals as goal

pub count_turn-requires : goal.count_turn-requires
count_turn-requires c = (part_asks c.requires (length c.args.line.now / 8 * 8) c.count_turns.ensures (length c.args.line.now) (omega arith) (omega arith), omega (arith, length-take (length c.args.line.now - length c.args.line.now / 8 * 8) (drop (length c.args.line.now / 8 * 8) c.args.line.now)))

pub returns : goal.returns
returns c = part_whole _ _ (length c.args.line.now) (part_next _ _ (length c.args.line.now / 8 * 8) (length c.args.line.now) (omega arith) c.count_turns.ensures c.count_turn.ensures) (omega arith)
