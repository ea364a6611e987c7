-- `tile_count::eight_sum` meets its contract: the ways passed are added up.
use mathlib.Core.Path.{◌≡◌}
use Rattle.tile_count.proofs.Ways.{front_at}
use Rattle.tile_count.proofs.eight_sum.Given as goal

abbrev pub invariant-loop-j : goal.invariant-loop-j
invariant-loop-j l = l.sum ≡ front_at l.table l.k l.j
