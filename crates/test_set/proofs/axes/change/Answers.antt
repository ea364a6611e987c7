-- `test_set::axes::change` meets its contract: an entry that is not there, or not asked for, stays. Assumes nothing.
use Rattle.std.proofs.Common.{sym, refl}
use lib.Seq.{set_out}
use Rattle.test_set.proofs.axes.change.Goals as goal

pub returns-then-not-asked : goal.returns-then-not-asked
returns-then-not-asked c = rw c.if-not-asked.true refl

pub returns-then-i-entries : goal.returns-then-i-entries
returns-then-i-entries c = rw c.if-not-asked.false refl

pub returns-else-i-entries : goal.returns-else-i-entries
returns-else-i-entries c = rw c.if-not-asked.false (sym (set_out _ _ _ c.if-i-entries.false))
