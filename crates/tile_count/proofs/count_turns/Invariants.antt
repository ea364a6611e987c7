-- `tile_count::count_turns` meets its contract: the turns passed are added.
use Prim.Native.Nat.{◌/◌, ◌%◌}
use mathlib.Core.Path.{◌≡◌}
use mathlib.Core.List.{map}
use lib.ListN.{take, drop}
use Rattle.std.specs.Slice.Iter.{chunks_exact_rest, chunks_exact_size}
use Rattle.tile_count.specs.Tally.{WaysAdded}
use Rattle.tile_count.proofs.Cuts.{passed}
use Rattle.tile_count.proofs.count_turns.Given as goal

abbrev pub invariant-loop-turn : goal.invariant-loop-turn
invariant-loop-turn l =
    let rest = chunks_exact_rest l.turn-iterator in
    (chunks_exact_size l.turn-iterator ≡ 8)
    × (rest ≡ drop (passed l.line rest) l.line)
    × (passed l.line rest % 8 ≡ 0)
    × WaysAdded (map (λ p. p / 8) (take (passed l.line rest) l.line)) l.initial.table l.table
