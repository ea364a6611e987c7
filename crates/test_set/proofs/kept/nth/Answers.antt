-- `test_set::kept::nth` meets its contract: behind the tenth number is 0. Assumes nothing.
use Rattle.std.proofs.Common.{◌≡◌, length, sym, arith}
use lib.ListN.{get_or-eq_default}
use Rattle.test_set.proofs.kept.nth.Goals as goal

pub returns : goal.returns
returns c = let h : length c.args.numbers ≡ 10 = c.well_formed.0.1.0.1 in sym (get_or-eq_default c.args.numbers 0 (omega arith))
