-- `tile_count::count_four` meets its contract: the fours passed are added to the four counts.
use Prim.Native.Nat.{◌%◌}
use mathlib.Core.Path.{◌≡◌}
use lib.ListN.{take, drop}
use Rattle.std.specs.Slice.Iter.{chunks_exact_rest, chunks_exact_size}
use Rattle.tile_count.specs.Tally.{FourAdded}
use Rattle.tile_count.proofs.Cuts.{passed}
use Rattle.tile_count.proofs.count_four.Given as goal

abbrev pub invariant-loop-four : goal.invariant-loop-four
invariant-loop-four l =
    let rest = chunks_exact_rest l.four-iterator in
    (chunks_exact_size l.four-iterator ≡ 4)
    × (rest ≡ drop (passed l.row rest) l.row)
    × (passed l.row rest % 4 ≡ 0)
    × FourAdded (take (passed l.row rest) l.row) l.by.min l.by.max l.by.bins l.initial.a l.initial.b l.initial.c l.initial.d l.a l.b l.c l.d
