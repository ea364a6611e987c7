-- `test_set::whole::with` meets its contract: a column behind the last changes nothing. Assumes nothing.
use Rattle.std.proofs.Common.{◌≡◌, length, sym, arith}
use lib.Seq.{set_out}
use Rattle.test_set.proofs.whole.with.Goals as goal

pub returns-else-column-lt49 : goal.returns-else-column-lt49
returns-else-column-lt49 c =
    let h : length c.args.row ≡ 49 = c.well_formed.0.1.0.1 in
    sym (set_out c.args.row c.args.column c.args.n (omega arith))
