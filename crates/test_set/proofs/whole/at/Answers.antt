-- `test_set::whole::at` meets its contract: behind the last column is 0. Assumes nothing.
use Rattle.std.proofs.Common.{◌≡◌, length, sym, arith}
use lib.ListN.{get_or-eq_default}
use Rattle.test_set.proofs.whole.at.Goals as goal

pub returns : goal.returns
returns c = let h : length c.args.row ≡ 49 = c.well_formed.0.1.0.1 in sym (get_or-eq_default c.args.row 0 (omega arith))
