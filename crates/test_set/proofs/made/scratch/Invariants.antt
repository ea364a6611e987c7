-- `test_set::made::scratch` meets its contract: the entries passed are filled. Assumes nothing.
use Rattle.std.proofs.Common.{◌≡◌, length}
use Rattle.base_lists.specs.Lists.{filled}
use Rattle.test_set.specs.Filmset.{scratch_of}
use Rattle.test_set.proofs.made.scratch.Given as goal

abbrev pub invariant-loop-i : goal.invariant-loop-i
invariant-loop-i l = (length l.entries ≡ length l.initial.entries) × (l.entries ≡ filled scratch_of l.initial.entries l.i)
