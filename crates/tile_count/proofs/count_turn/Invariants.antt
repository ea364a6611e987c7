-- `tile_count::count_turn` meets its contract: the places passed are added.
use Prim.Native.Nat.{◌/◌}
use mathlib.Core.List.{map}
use lib.ListN.{take}
use Rattle.tile_count.specs.Tally.{WaysAdded}
use Rattle.tile_count.proofs.count_turn.Given as goal

abbrev pub invariant-loop-way : goal.invariant-loop-way
invariant-loop-way l = WaysAdded (map (λ p. p / 8) (take l.way l.line)) l.initial.table l.table
