-- `test_set::made::list` meets its contract: the entries passed are filled. Assumes nothing.
use Rattle.std.proofs.Common.{◌≡◌, length}
use Rattle.base_lists.specs.Lists.{filled}
use Rattle.test_set.specs.Filmset.{list_entry}
use Rattle.test_set.proofs.made.list.Given as goal

abbrev pub invariant-loop-i : goal.invariant-loop-i
invariant-loop-i l = (length l.entries ≡ length l.initial.entries) × (l.entries ≡ filled list_entry l.initial.entries l.i)
