-- `tile_slide::take_one` meets its contract: the count of the grey's bin falls by one.
use native.Mathlib.Omega.{arith}
use Rattle.tile_slide.proofs.Turns.{one_asks_bin, one_room, one_holds, one_taken}
use Rattle.tile_slide.proofs.take_one.Goals as goal

pub bin_by-k-requires : goal.bin_by-k-requires
bin_by-k-requires c = one_asks_bin c.requires

pub bounds-counts-k : goal.bounds-counts-k
bounds-counts-k c = one_room c.requires c.bin_by-k.ensures

pub overflow_sub-counts : goal.overflow_sub-counts
overflow_sub-counts c = omega (arith, one_holds c.requires c.bin_by-k.ensures)

pub bounds-counts-k-2 : goal.bounds-counts-k-2
bounds-counts-k-2 c = one_room c.requires c.bin_by-k.ensures

pub returns : goal.returns
returns c = one_taken c.requires c.bin_by-k.ensures
