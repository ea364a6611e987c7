-- `test_set::made::fill` meets its contract: the entries passed are filled. Assumes nothing.
use Rattle.std.proofs.Common.{◌≡◌, length}
use Rattle.base_lists.specs.Lists.{filled}
use Rattle.test_set.specs.Filmset.{fill_of}
use Rattle.test_set.proofs.made.fill.Given as goal

abbrev pub invariant-loop-i : goal.invariant-loop-i
invariant-loop-i l = (length l.entries ≡ length l.initial.entries) × (l.entries ≡ filled (fill_of l.base l.first l.pace l.span) l.initial.entries l.i)
