-- `tile_count::count_parts` meets its contract: the parts passed are added.
use mathlib.Core.Path.{◌≡◌}
use mathlib.Core.List.{map}
use lib.ListN.{length, take, drop}
use Rattle.std.specs.Slice.Iter.{chunks_rest, chunks_size}
use Rattle.tile_count.specs.Tally.{bin_in, WaysAdded}
use Rattle.tile_count.proofs.Cuts.{passed}
use Rattle.tile_count.proofs.count_parts.Given as goal

abbrev pub invariant-loop-part : goal.invariant-loop-part
invariant-loop-part g l =
    let row = map g.T.Grey.value l.row in
    let rest = map g.T.Grey.value (chunks_rest l.part-iterator) in
    (chunks_size l.part-iterator ≡ length l.line)
    × (rest ≡ drop (passed row rest) row)
    × WaysAdded (map (bin_in l.by) (take (passed row rest) row)) l.initial.table l.table
