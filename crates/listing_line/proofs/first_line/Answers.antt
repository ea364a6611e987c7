-- Eight numbers in a line. Assumes nothing.
use native.Mathlib.Omega.{arith}
use Rattle.listing_line.proofs.Lines.{short_none, short_more}
use Rattle.listing_line.proofs.first_line.Goals as goal

pub write_line-requires : goal.write_line-requires
write_line-requires c =
    record {
      some = omega arith;
      small = short_more _ _ (omega arith) (short_more _ _ (omega arith) (short_more _ _ (omega arith) (short_more _ _ (omega arith) (short_more _ _ (omega arith) (short_more _ _ (omega arith) (short_more _ _ (omega arith) (short_more _ _ (omega arith) short_none)))))));
      fitting = omega arith;
    }
