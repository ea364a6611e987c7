-- `tile_count::count_quarters` meets its contract: each fourth grey goes to one of the counts, the rest to the first.
use Prim.Native.Nat.{◌*◌, ◌/◌}
use lib.ListN.{length}
use native.Mathlib.Omega.{arith}
use Rattle.tile_count.proofs.Fours.{rest_asks, quarters}
use Rattle.tile_count.proofs.count_quarters.Goals as goal

pub count_row-requires : goal.count_row-requires
count_row-requires c = rest_asks c.requires (length c.args.row.now / 4 * 4) c.count_four.ensures (omega arith)

pub returns : goal.returns
returns c = quarters c.requires (length c.args.row.now / 4 * 4) c.count_four.ensures (omega arith) c.count_row.ensures
