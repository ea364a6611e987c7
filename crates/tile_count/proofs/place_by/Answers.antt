-- `tile_count::place_by` meets its contract: the factor gives the bin.
use Prim.Native.Nat.{◌*◌}
use mathlib.Core.Path.{ap, ◌∙◌}
use native.Mathlib.Omega.{arith}
use Rattle.tile_count.proofs.Ways.{grey_low, grey_high, by_factor, bin_few}
use Rattle.tile_count.proofs.place_by.Goals as goal

pub bin_by-k-requires : goal.bin_by-k-requires
bin_by-k-requires c = (grey_low c.requires, grey_high c.requires)

pub overflow_cast-k : goal.overflow_cast-k
overflow_cast-k c = omega (arith, c.bin_by-k.ensures, by_factor c.requires, bin_few c.requires)

pub overflow_mul-result : goal.overflow_mul-result
overflow_mul-result c = omega (arith, c.bin_by-k.ensures, by_factor c.requires, bin_few c.requires)

pub returns : goal.returns
returns c = ap (λ k. k * 8) (c.bin_by-k.ensures ∙ by_factor c.requires)
