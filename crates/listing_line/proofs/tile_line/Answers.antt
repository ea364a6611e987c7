-- Eight numbers in a line. Assumes nothing.
use Prim.Native.Nat.{◌+◌, ◌*◌}
use native.Mathlib.Omega.{arith}
use Rattle.listing_line.proofs.Lines.{short_none, short_more}
use Rattle.listing_line.proofs.tile_line.Goals as goal

pub overflow_cast-numbers-3 : goal.overflow_cast-numbers-3
overflow_cast-numbers-3 c = omega (arith, c.shared_slice_known-2-1.given (c.args.k * 4))

pub overflow_cast-numbers-4 : goal.overflow_cast-numbers-4
overflow_cast-numbers-4 c = omega (arith, c.shared_slice_known-3-1.given (c.args.k * 4 + 1))

pub overflow_cast-numbers-5 : goal.overflow_cast-numbers-5
overflow_cast-numbers-5 c = omega (arith, c.shared_slice_known-4-1.given (c.args.k * 4 + 2))

pub overflow_cast-numbers-6 : goal.overflow_cast-numbers-6
overflow_cast-numbers-6 c = omega (arith, c.shared_slice_known-5-1.given (c.args.k * 4 + 3))

pub write_line-requires : goal.write_line-requires
write_line-requires c =
    record {
      some = omega arith;
      small = short_more _ _ (omega arith) (short_more _ _ (omega arith) (short_more _ _ (omega arith) (short_more _ _ (omega arith) (short_more _ _ (omega (arith, (c.shared_slice_known-5-1.given (c.args.k * 4)))) (short_more _ _ (omega (arith, (c.shared_slice_known-5-1.given (c.args.k * 4 + 1)))) (short_more _ _ (omega (arith, (c.shared_slice_known-5-1.given (c.args.k * 4 + 2)))) (short_more _ _ (omega (arith, (c.shared_slice_known-5-1.given (c.args.k * 4 + 3)))) short_none)))))));
      fitting = omega arith;
    }
