-- `tile_count::place_even` meets its contract: the shift gives the bin.
use Prim.Native.Nat.{◌*◌}
use mathlib.Core.Path.{ap}
use native.Mathlib.Omega.{arith}
use Rattle.tile_count.proofs.Ways.{grey_low, grey_high, by_shift, bin_few}
use Rattle.tile_count.proofs.place_even.Goals as goal

pub overflow_cast-k : goal.overflow_cast-k
overflow_cast-k c = omega (arith, grey_low c.requires.0, grey_high c.requires.0)

pub overflow_sub-k : goal.overflow_sub-k
overflow_sub-k c = grey_low c.requires.0

pub overflow_mul-result : goal.overflow_mul-result
overflow_mul-result c = omega (arith, by_shift c.requires.0 _ c.requires.1 c.requires.2, bin_few c.requires.0)

pub returns : goal.returns
returns c = ap (λ k. k * 8) (by_shift c.requires.0 _ c.requires.1 c.requires.2)
