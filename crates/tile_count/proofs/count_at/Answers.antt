-- `tile_count::count_at` meets its contract: the way's entry grows by one.
use native.Mathlib.Omega.{arith}
use Rattle.tile_count.proofs.Ways.{at_fits, at_added}
use Rattle.tile_count.proofs.count_at.Goals as goal

pub overflow_add-table : goal.overflow_add-table
overflow_add-table c = omega (arith, at_fits c.requires)

pub returns : goal.returns
returns c = at_added c.requires
