-- `test_set::made::poke` meets its contract: a place behind the last entry changes nothing. Assumes nothing.
use Rattle.std.proofs.Common.{sym}
use lib.Seq.{set_out}
use Rattle.test_set.proofs.made.poke.Goals as goal

pub returns-then-i-entries : goal.returns-then-i-entries
returns-then-i-entries c = cc

pub returns-else-i-entries : goal.returns-else-i-entries
returns-else-i-entries c = sym (set_out _ _ _ c.if-i-entries.false)
