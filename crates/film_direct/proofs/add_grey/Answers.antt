-- `add_grey` adds a grey: the count of the grey's bin grows by one.
use native.Mathlib.Omega.{arith}
use Rattle.tile_count.proofs.Rows.{one_asks_bin, one_room, one_fits, one_added}
use Rattle.film_direct.proofs.add_grey.Goals as goal

pub bin_by-k-requires : goal.bin_by-k-requires
bin_by-k-requires c = one_asks_bin c.requires

pub bounds-counts-k : goal.bounds-counts-k
bounds-counts-k c = one_room c.requires c.bin_by-k.ensures

pub overflow_add-counts : goal.overflow_add-counts
overflow_add-counts c = omega (arith, one_fits c.requires c.bin_by-k.ensures)

pub bounds-counts-k-2 : goal.bounds-counts-k-2
bounds-counts-k-2 c = one_room c.requires c.bin_by-k.ensures

pub returns : goal.returns
returns c = one_added c.requires c.bin_by-k.ensures
